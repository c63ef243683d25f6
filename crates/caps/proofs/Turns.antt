-- What is to be printed stays the same from turn to turn, and is written at the end.
-- Assumes nothing.
use Rattle.std.proofs.Common.{◌≡◌, ◌∙◌, ap, sym, subst, ℕ, ◌+◌, ◌-◌, ◌*◌, ◌/◌, ◌<◌, List, ◌++◌, length, drop, append_assoc, length-drop, arith}
use Rattle.std.proofs.lemmas.List.{append-nil}
use Rattle.std.specs.Prelude.{Option, Some, None}
use Rattle.std.specs.Io.KnownBytes.{prepend_known, Keeps, Appends, IsAtEnd}
use Rattle.printed.specs.Printed.{record_lines, end_line, printed_of}
use Rattle.caps.specs.Printing.{Bytes, Lines, Reads, Adds, made, unlisted, output_of}
use Rattle.caps.proofs.Printing.{printed_of_append, printed_of_end}

pub keeps_trans : (a b c : Option (List ℕ)) → Keeps a b → Keeps b c → Keeps a c
keeps_trans None b c h g = tt
keeps_trans (Some xs) None c h g = absurd h
keeps_trans (Some xs) (Some ys) None h g = absurd g
keeps_trans (Some xs) (Some ys) (Some zs) h g = g ∙ h

listed :
    (made made' rest left : Option (List ℕ)) (held : List ℕ) → Keeps rest (prepend_known held left)
    → Appends made made' (record_lines held (length held / 8))
    → Keeps (output_of made rest) (output_of made' (prepend_known (drop (length held / 8 * 8) held) left))
listed None made' rest left held read added = tt
listed (Some w) made' None left held read added = tt
listed (Some w) made' (Some s) None held read added = absurd read
listed (Some w) None (Some s) (Some r) held read added = absurd added
listed (Some w) (Some w') (Some s) (Some r) held read added =
    ap (λ (l : List ℕ). l ++ printed_of (drop (length held / 8 * 8) held ++ r)) added
    ∙ append_assoc w (record_lines held (length held / 8)) (printed_of (drop (length held / 8 * 8) held ++ r))
    ∙ ap (λ (l : List ℕ). w ++ l) (sym (printed_of_append held r) ∙ ap printed_of read)

ended :
    (made written rest left : Option (List ℕ)) (held : List ℕ) (n : ℕ) → length held < 8 → n ≡ length held → Keeps rest (prepend_known held left)
    → IsAtEnd left → Appends made written (end_line n) → Keeps (output_of made rest) written
ended None written rest left held n few count read end added = tt
ended (Some w) written None left held n few count read end added = tt
ended (Some w) written (Some s) None held n few count read end added = absurd read
ended (Some w) None (Some s) (Some r) held n few count read end added = absurd added
ended (Some w) (Some w') (Some s) (Some r) held n few count read end added =
    let whole : held ≡ s = sym (append-nil held) ∙ ap (λ (l : List ℕ). held ++ l) (sym end) ∙ read in
    added ∙ ap (λ (l : List ℕ). w ++ l) (ap end_line count ∙ sym (printed_of_end held few) ∙ ap printed_of whole)

-- a read, and the lines of the whole records
pub turn :
    (before after : Lines) (i j k : Bytes) (n : ℕ) → Reads i j n → Adds before after (record_lines j.held (length j.held / 8))
    → k ≡ record j { held = drop (length j.held / 8 * 8) j.held }
    → Keeps (output_of (made before) (unlisted i)) (output_of (made after) (unlisted k))
turn before after i j k n read added kept =
    subst
    (λ (b : Bytes). Keeps (output_of (made before) (unlisted i)) (output_of (made after) (unlisted b)))
    (sym kept)
    (listed (made before) (made after) (unlisted i) j.left j.held read.same added)

pub less_than_a_record : (j k : Bytes) → k ≡ record j { held = drop (length j.held / 8 * 8) j.held } → length k.held < 8
less_than_a_record j k kept =
    let size : length k.held ≡ length j.held - length j.held / 8 * 8 =
    ap (λ (b : Bytes). length b.held) kept ∙ length-drop (length j.held / 8 * 8) j.held
    in
    omega arith

-- a read that gives nothing, and the end line
pub last_turn :
    (before : Lines) (written : Option (List ℕ)) (i j : Bytes) (n : ℕ) (rest : List ℕ) → length i.held < 8 → Reads i j n → n ≡ 0
    → rest ≡ drop (length j.held / 8 * 8) j.held → Appends (made before) written (end_line (length rest))
    → Keeps (output_of (made before) (unlisted i)) written
last_turn before written i j n rest few read none cut added =
    let size : length j.held ≡ length i.held + n = read.size in
    let count : length rest ≡ length j.held - length j.held / 8 * 8 = ap length cut ∙ length-drop (length j.held / 8 * 8) j.held in
    ended (made before) written (unlisted i) j.left j.held (length rest) (omega arith) (omega arith) read.same (read.end none (omega arith)) added
