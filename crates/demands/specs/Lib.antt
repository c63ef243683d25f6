-- What a reader of the demands has to believe, in the order to read it. A claim is a type with a name, as `Exactly15V`; the theorem of that name in
-- small letters, `exactly_15_V : Exactly15V`, proves it, in the file of proofs/ with the same name. Where a definition has that name already, the
-- theorem has `_lem` behind it: `shape_refusals_lem : ShapeRefusals`. Where it is otherwise, the head of the file says so. `tools/claims.py` sees to
-- it that no claim stands here without its theorem.

-- What the calls promise, by name
pub mod CallContracts
pub mod FlatContracts
pub mod SinkContracts
pub mod SummaryContracts
-- Demand 1, refusals: the first refusal that applies is given, with its place, and nothing else with it
pub mod Refusals
pub mod EnumRefusals
pub mod FlatRefusals
pub mod SinkRefusals
pub mod SummaryRefusals
pub mod SharingRefusals
pub mod DecidingRefusals
pub mod MessageRefusals
pub mod ManyRows
pub mod Withdrawn
pub mod NoKindOrder
pub mod NoKindCases
-- Rounding both ways from one division (T-03)
pub mod Rounding
-- Demand 2, words, lists and rules: what is read writes back, what is built passes, and each limit is where the statement has it
pub mod KindsAgree
pub mod RoundTrips
pub mod FlatRoundTrips
pub mod Unread
pub mod FlatUnread
pub mod PowerRules
pub mod EachObject
pub mod Cables
pub mod Ratings
pub mod RuleLists
pub mod RequestNumbers
pub mod Ignored
pub mod At15V
pub mod MarkedCases
-- Summaries (T-06): what they say, and that the answer from one is the answer from its list
pub mod Summaries
pub mod SummaryUnread
-- Sink lists (T-04): what is read writes back, and a rating is kept in milliwatts
pub mod SinkRoundTrips
pub mod SinkUnread
pub mod Ceilings
-- Whole messages (T-02): what is written reads back, and which bytes are touched
pub mod Messages
-- Demand 3, shared ports over whole runs: what holds after any calls, good or bad
pub mod SoundRows
pub mod Runs
pub mod Figures
pub mod AfterRun
pub mod DueAnswers
-- What the contracts settle: one outcome for each input, and no wrong library
pub mod OneOutcome
pub mod FlatOutcomes
pub mod SinkOutcomes
pub mod SummaryOutcomes
pub mod MessageOutcomes
pub mod Libraries
pub mod WrongLibraries
pub mod WrongInstances
