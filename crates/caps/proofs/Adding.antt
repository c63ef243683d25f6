-- How the output grows, by lines that are put and by what is written.
-- Assumes nothing.
use Rattle.std.proofs.Common.{◌≡◌, refl, ◌∙◌, ap, sym, subst, ℕ, ◌+◌, ◌*◌, List, [], ◌++◌, append_assoc}
use native.Mathlib.Numerals.{add-one}
use Rattle.std.proofs.lemmas.List.{append-nil}
use Rattle.std.specs.Prelude.{Option, Some, None, Result, Ok, Err, OnOk}
use Rattle.std.specs.Io.KnownBytes.{append_known, Appends}
use Rattle.printed.specs.Printed.{record_line, record_lines}
use Rattle.caps.specs.Printing.{Lines, Adds, made}

-- what follows from two facts on success
pub on_ok_both : {T E P Q S : Type 0} (r : Result T E) → (P → Q → S) → OnOk r P → OnOk r Q → OnOk r S
on_ok_both (Ok v) f p q = f p q
on_ok_both (Err e) f p q = tt

pub appends_trans : (x y z : Option (List ℕ)) (l k : List ℕ) → Appends x y l → Appends y z k → Appends x z (l ++ k)
appends_trans None y z l k h g = tt
appends_trans (Some xs) None z l k h g = absurd h
appends_trans (Some xs) (Some ys) None l k h g = absurd g
appends_trans (Some xs) (Some ys) (Some zs) l k h g = g ∙ ap (λ (v : List ℕ). v ++ k) h ∙ append_assoc xs l k

pub appends_put : (written : Option (List ℕ)) (waiting line : List ℕ) → Appends (append_known written waiting) (append_known written (waiting ++ line)) line
appends_put None waiting line = tt
appends_put (Some xs) waiting line = sym (append_assoc xs waiting line)

-- one more line is put, where there was room or what waited was written
pub adds_put :
    (a b c d : Lines) (lines line : List ℕ) → Adds a b lines → Adds b c [] → d ≡ record c { waiting = c.waiting ++ line } → Adds a d (lines ++ line)
adds_put a b c d lines line before room put =
    subst
    (λ (l : Lines). Adds a l (lines ++ line))
    (sym put)
    (appends_trans (made a) (made b) (made record c { waiting = c.waiting ++ line }) lines line before
    (appends_trans (made b) (made c) (made record c { waiting = c.waiting ++ line }) [] line room (appends_put c.written c.waiting line)))

pub next_record :
    (a b c d : Lines) (s : List ℕ) (i : ℕ) (line : List ℕ) → Adds a b (record_lines s i) → Adds b c [] → d ≡ record c { waiting = c.waiting ++ line }
    → line ≡ record_line s (8 * i) → Adds a d (record_lines s (i + 1))
next_record a b c d s i line before room put is_line =
    rw add-one (subst (λ (l : List ℕ). Adds a d (record_lines s i ++ l)) is_line (adds_put a b c d (record_lines s i) line before room put))

all_written : (written : Option (List ℕ)) (waiting : List ℕ) → waiting ≡ [] → append_known written waiting ≡ written
all_written None waiting none = refl
all_written (Some xs) waiting none = ap (λ (l : List ℕ). Some l) (ap (λ (l : List ℕ). xs ++ l) none ∙ append-nil xs)

-- the last line is put, and everything is written
pub last_line :
    (a b c d : Lines) (line : List ℕ) → Adds a b [] → c ≡ record b { waiting = b.waiting ++ line } → Adds c d [] → d.waiting ≡ []
    → Appends (made a) d.written line
last_line a b c d line room put flushed none =
    let added : Adds a c line =
    subst
    (λ (l : Lines). Adds a l line)
    (sym put)
    (appends_trans (made a) (made b) (made record b { waiting = b.waiting ++ line }) [] line room (appends_put b.written b.waiting line))
    in
    subst
    (λ (w : Option (List ℕ)). Appends (made a) w line)
    (all_written d.written d.waiting none)
    (subst (λ (l : List ℕ). Appends (made a) (made d) l) (append-nil line) (appends_trans (made a) (made c) (made d) line [] added flushed))
