-- A request is judged without its reserved bits (T-01; docs/STATEMENT.md, "Answering a request": "Two requests to the same object that differ
-- in no other bit get the same answer on the same list; asked of the same port of the same rows they get the same answer and leave the same rows.").
-- Each claim is over the contract of a call, for every input, and is proved by the theorem of its name in small letters in proofs/Ignored.antt.
-- `AgreeOutside places w v` (requests, specs/Ignoring): the words w and v have the same bit at each of the 32 places but these. `ignored_by o` are
-- the places that are ignored where the object o is asked; `SameOn l w v`: the words agree but for what is ignored on the list l, by the object
-- that the position names there, and where it names none all but the position.
-- Assumes nothing.
use Rattle.std.specs.Prelude.{◌≡◌, List, ℕ}
use Rattle.verdicts.specs.declared.Verdict.{Verdict}
use Rattle.steps.specs.declared.HalfWatts.{HalfWatts}
use Rattle.objects.specs.declared.Object.{Object}
use Rattle.lists.specs.declared.Words.{Words}
use Rattle.requests.specs.Ignoring.{ignored_by, AgreeOutside, SameOn}
use Rattle.ports.specs.declared.Row.{Row}
use Rattle.ports.specs.declared.Standing.{Standing}
use Rattle.ports.specs.declared.Change.{Change}
use Rattle.ports.specs.Rows.{port_row}
use Rattle.ports.specs.RuleLists.{rule_list}
use Rattle.board.specs.Promises.{SharesRequest}
use Rattle.demands.specs.CallContracts.{JudgeAnswers, AnswerAnswers, RequestDecides}
use Rattle.demands.specs.FlatContracts.{ArinAnswerAnswers}

-- ---- asked of an object, and of a list

abbrev pub JudgeIgnores : Type 0
JudgeIgnores = (o : Object) (w v : ℕ) → AgreeOutside (ignored_by o) w v → (r s : Verdict) → JudgeAnswers o w r → JudgeAnswers o v s → r ≡ s

abbrev pub AnswerIgnores : Type 0
AnswerIgnores = (l : Words) (w v : ℕ) → SameOn l w v → (r s : Verdict) → AnswerAnswers l w r → AnswerAnswers l v s → r ≡ s

abbrev pub ArinAnswerIgnores : Type 0
ArinAnswerIgnores = (l : Words) (w v : ℕ) → SameOn l w v → (r s : Verdict) → ArinAnswerAnswers l w r → ArinAnswerAnswers l v s → r ≡ s

-- ---- asked of a port: "A request is judged on the rule list of its row as it stands"

-- by value: the answer, the row to write and where it goes
abbrev pub RequestIgnores : Type 0
RequestIgnores =
    (t : Standing) (y : Row) (capacity : HalfWatts) (port w v : ℕ) → SameOn (rule_list y) w v
    → (r s : Change) → RequestDecides t y capacity port w r → RequestDecides t y capacity port v s → r ≡ s

-- over lent rows: the answer, and every row at exit
abbrev pub ArinRequestIgnores : Type 0
ArinRequestIgnores =
    (ys : List Row) (capacity port w v : ℕ) → SameOn (rule_list (port_row ys port)) w v
    → (r s : Verdict) (zs us : List Row) → SharesRequest ys capacity port w r zs → SharesRequest ys capacity port v s us
    → (r ≡ s) × (zs ≡ us)
