-- Proves the claims of specs/Refusals.antt: a verdict that is the first of a table answers that table, and each call gives such a verdict.
-- Assumes nothing.
use Rattle.std.specs.Prelude.{Option}
use mathlib.Core.Path.{◌≡◌, refl, sym, ap, ◌∙◌, subst}
use mathlib.Core.Bool.{Bool, cond}
use mathlib.Core.List.{List}
use Prim.Native.Nat.{ℕ}
use Rattle.verdicts.specs.declared.Verdict.{Verdict}
use Rattle.verdicts.specs.Refusals.{Refusal, first_of, verdict, success, verdict_of}
use Rattle.verdicts.proofs.First.{Telling, telling_numbered, passes_told, refused_so, Exactly, exactly_told, exactly, said_first}
use borrow.Author.Tests.{eq-eqb, ne_eqb}
use Rattle.objects.specs.declared.Side.{Side}
use Rattle.objects.specs.declared.Side.TheVariants.{Source}
use Rattle.lists.specs.declared.Shaped.{Shaped}
use Rattle.lists.specs.declared.Reading.{Reading}
use Rattle.lists.specs.declared.Listing.{Listing}
use Rattle.lists.specs.Shape.{refusals_for, shape_refusals, shaped_refused, shaped_of}
use Rattle.lists.specs.Writing.{no_words, writing_refusals, write_refused, written_from, listed_of, encoded_at}
use Rattle.lists.proofs.Shapes.{shape_numbered, shape_verdict}
use Rattle.lists.proofs.Readings.{read_verdict, read_empty}
use Rattle.lists.proofs.Writings.{write_numbered, write_verdict, write_empty}
use Rattle.rules.specs.declared.Profiled.{Profiled}
use Rattle.rules.specs.Profiles.{default_refusals, build_refusals}
use Rattle.rules.specs.Checking.{check_refusals}
use Rattle.rules.proofs.Defaults.{default_verdict, default_empty}
use Rattle.rules.proofs.Builds.{build_numbered, build_verdict, build_empty}
use Rattle.rules.proofs.Checks.{check_numbered, check_verdict}
use Rattle.requests.specs.Judging.{refusals_of}
use Rattle.requests.specs.Answering.{answer_refusals}
use Rattle.requests.proofs.Answers.{answer_numbered, answer_verdict, judged_numbered, judged_verdict}
use Rattle.demands.specs.Refusals.{Answers, ShapeForRefusals, ShapeRefusals, ReadableRefusals, FinishedRefusals, ReadRefusals, WriteRefusals, DefaultRefusals, BuildRefusals, CheckRefusals, AnswerRefusals, JudgeRefusals}

-- ---- any table

pub answers : (v : Verdict) (rs : List Refusal) → (Exactly rs) → v ≡ verdict_of rs → Answers v rs
answers v rs x e =
    subst (λ (u : Verdict). Answers u rs) (sym e)
    (x.succeeds, x.refuses)

-- an answer that has its verdict in it: the verdict answers the table, and what is refused is a refusal in all its parts
pub answers_with : {A : Type 0} (said : A → Verdict) (refused : ℕ → ℕ → A) → ((n p : ℕ) → said (refused n p) ≡ verdict n p)
    → (rs : List Refusal) → Telling rs → (answer : A) → said answer ≡ success → (r : A) → r ≡ first_of refused rs answer
    → Answers (said r) rs × ((said r ≡ success → ⊥) → r ≡ refused (verdict_of rs).number (verdict_of rs).place)
answers_with said refused tells rs t answer good r e =
    let v = ap said e ∙ said_first said refused tells rs answer good in (
      answers (said r) rs (exactly_told rs t) v,
      λ f. e ∙ refused_so refused rs (λ z. f (v ∙ passes_told rs t z)) answer,
    )

-- ---- lists

pub shape_for_refusals : ShapeForRefusals
shape_for_refusals side l r e = answers r (refusals_for side l) (exactly (refusals_for side l) (shape_numbered side l)) (e ∙ shape_verdict side l)

pub shape_refusals_lem : ShapeRefusals
shape_refusals_lem l r e = shape_for_refusals Source l r e

pub readable_refusals : ReadableRefusals
unfolding shaped_of
readable_refusals side l r e =
    let rs = refusals_for side l in
    let both = answers_with (λ (s : Shaped). s.verdict) shaped_refused (λ n p. refl) rs (telling_numbered rs (shape_numbered side l)) _ refl r e in
    (both.0, λ f. ap (λ (s : Shaped). s.count) (both.1 f))

pub finished_refusals : FinishedRefusals
unfolding listed_of
finished_refusals side m r e = (
  (λ z.
      let rs = refusals_for side m.list in
      let q = e ∙ ap (λ (b : Bool). cond b (listed_of side m.list) m) (eq-eqb m.verdict.number 0 z) in
      let both = answers_with (λ (x : Listing). x.verdict) write_refused (λ n p. refl) rs (telling_numbered rs (shape_numbered side m.list)) _ refl r q in
      (both.0, λ f. ap (λ (x : Listing). x.list) (both.1 f))),
  λ f. e ∙ ap (λ (b : Bool). cond b (listed_of side m.list) m) (ne_eqb m.verdict.number 0 f),
)

pub read_refusals : ReadRefusals
read_refusals l r e = (
  answers r.verdict (shape_refusals l) (exactly (shape_refusals l) (shape_numbered Source l))
      (ap (λ (x : Reading). x.verdict) e ∙ read_verdict Source l ∙ shape_verdict Source l),
  λ f. ap (λ (x : Reading). x.list) e ∙ read_empty Source l (λ z. f (ap (λ (x : Reading). x.verdict) e ∙ z)),
)

-- writing, in whatever form the objects are, by what each is written as
pub writing_refused_lem : (side : Side) (made : ℕ → Option ℕ) (n : ℕ) (r : Listing) → r ≡ written_from side made n
    → Answers r.verdict (writing_refusals side made n) × ((r.verdict ≡ success → ⊥) → r.list ≡ no_words)
writing_refused_lem side made n r e =
    let v = ap (λ (x : Listing). x.verdict) e in (
      answers r.verdict (writing_refusals side made n) (exactly (writing_refusals side made n) (write_numbered side made n)) (v ∙ write_verdict side made n),
      λ f. ap (λ (x : Listing). x.list) e ∙ write_empty side made n (λ z. f (v ∙ z)),
    )

pub write_refusals_lem : WriteRefusals
write_refusals_lem o r e = writing_refused_lem Source (encoded_at o.places) o.count r e

-- ---- rules

pub default_refusals_lem : DefaultRefusals
default_refusals_lem m r e = (
  answers r.verdict (default_refusals m) (exactly (default_refusals m) refl) (ap (λ (x : Profiled). x.verdict) e ∙ default_verdict m),
  λ f. ap (λ (x : Profiled). x.profile) e ∙ default_empty m (λ z. f (ap (λ (x : Profiled). x.verdict) e ∙ z)),
)

pub build_refusals_lem : BuildRefusals
build_refusals_lem p r e = (
  answers r.verdict (build_refusals p) (exactly (build_refusals p) (build_numbered p)) (ap (λ (x : Listing). x.verdict) e ∙ build_verdict p),
  λ f. ap (λ (x : Listing). x.list) e ∙ build_empty p (λ z. f (ap (λ (x : Listing). x.verdict) e ∙ z)),
)

pub check_refusals_lem : CheckRefusals
check_refusals_lem p l r e = answers r (check_refusals p l) (exactly (check_refusals p l) (check_numbered p l)) (e ∙ check_verdict p l)

-- ---- requests

pub answer_refusals_lem : AnswerRefusals
answer_refusals_lem l w r e = answers r (answer_refusals l w) (exactly (answer_refusals l w) (answer_numbered l w)) (e ∙ answer_verdict l w)

pub judge_refusals : JudgeRefusals
judge_refusals o w r e = answers r (refusals_of o w) (exactly (refusals_of o w) (judged_numbered o w)) (e ∙ judged_verdict o w)
