-- `read_field::varint::read_varint_lua54` meets its contract: no byte, a number of one byte, or any other. Assumes nothing.
use mathlib.Core.Path.{◌≡◌, sym, ◌∙◌, ap}
use mathlib.Core.Bool.{false}
use Prim.Native.Nat.{ℕ, ◌<◌, ◌≤◌, ◌+◌, ◌-◌, ◌*◌}
use native.Mathlib.Omega.{arith}
use borrow.Author.Tests.{ne_eqb}
use lib.Dec.{eqb}
use lib.ListN.{length, drop, get_or}
use lib.Seq.{drop-cons}
use Rattle.format.specs.Form.{Bytes}
use Rattle.format.specs.Read.{ok}
use Rattle.format.specs.ReadFields.{groups, number}
use Rattle.format_spelling.specs.ReadSpelling.{is_padded}
use Rattle.format.proofs.Steps.{groups-short, groups-last}
use Rattle.read_field.specs.Shown.{number_result}
use Rattle.read_field.proofs.varint.read_varint_lua54.Goals as goal

-- (helper, to look at)
one_byte : (s : Bytes) (i x : ℕ) → i < length s → x ≡ get_or s i 0 → 128 ≤ x → x < 256 → groups 0 i (drop i s) ≡ ok (x - 128) (i + 1) (drop (i + 1) s)
one_byte s i x h byte l m =
    let e : 0 * 128 + (x - 128) ≡ x - 128 = omega arith in
    groups-last s i 0 h x byte (omega arith) l m ∙ ap (λ v. ok v (i + 1) (drop (i + 1) s)) e

-- (helper, to look at)
leads : (s : Bytes) (i x : ℕ) → i < length s → x ≡ get_or s i 0 → is_padded (drop i s) ≡ eqb x 0
leads s i x h byte = rw (drop-cons s i 0 h, byte)

pub returns-then-s-at : goal.returns-then-s-at
returns-then-s-at c =
    let a = c.args in
    rw c.short.ensures (sym (ap (number_result _) (groups-short a.s.now a.cursor.at 0 (omega arith))))

pub returns-then-byte-ge128 : goal.returns-then-byte-ge128
returns-then-byte-ge128 c =
    let a = c.args in
    let w = c.wide-byte in
    let plain : is_padded (drop a.cursor.at a.s.now) ≡ false = leads a.s.now a.cursor.at w.result (omega arith) w.ensures.0 ∙ ne_eqb w.result 0 (λ z. omega (arith, z)) in
    sym (ap (λ b. number_result b (number a.cursor.at (drop a.cursor.at a.s.now))) plain ∙ ap (number_result false) (one_byte a.s.now a.cursor.at w.result (omega arith) w.ensures.0 (omega arith) (omega arith)))
