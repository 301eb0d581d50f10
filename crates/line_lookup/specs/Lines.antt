-- The line of an instruction: 01 'model.rs', the Rust's `get_line_for_pc`. An anchor is an entry of `abs_line_info`.
-- Beside `luaG_getfuncline` of ldebug.c (specs/Ldebug.antt):
--     without line information the line is 0; there −1
--     the delta at the base itself is added too; there adding starts just behind it
--     a delta of −128 takes the line of an anchor at its pc, and without one leaves the line; there an assertion says that it is not met
--     as many anchors as instructions are taken one for each; there they are as any others
use Rattle.std.specs.Prelude.{Result, Ok, Err}
use Rattle.format.specs.declared.refusal.Refusal.{Refusal}
use Rattle.std.specs.Prelude.{Bool, cond, List, [], ◌∷◌, map, ℕ, ◌+◌, ◌^◌, eqb, leb, ℤ, pos, negsuc, ◌+ℤ◌, length, take, drop}
use Rattle.std.proofs.Math.Option
use Rattle.std.proofs.Math.Option.{Option, none, some, get_or}
use Rattle.std.proofs.Math.ListN.{get_elem?}
use Rattle.std.specs.Int.{w8}
use Rattle.std.proofs.Common.{to_z}
use Rattle.format.specs.Any.{any}
use Rattle.format.specs.declared.entry.AbsLineInfo.{AbsLineInfo}
use Rattle.format.specs.declared.refusal.Refusal.TheVariants.{LineTooLarge}
use Rattle.format.specs.Form.{Bytes}
use Rattle.format.specs.Reading.{Prototype}
use Rattle.show_row.specs.Asked.{Asked, found, refused}

-- ## 1. No deltas and no anchors: 0
abbrev pub rule1 : Bytes → List AbsLineInfo → Option ℕ
rule1 [] [] = some 0
rule1 [] (a ∷ more) = none
rule1 (d ∷ ds) anchors = none

-- ## 2. As many anchors as instructions, and pc among them: that anchor's line
abbrev pub rule2 : ℕ → List AbsLineInfo → ℕ → Option ℕ
rule2 instructions anchors pc = cond (eqb (length anchors) instructions) (Option.map (λ (a : AbsLineInfo). a.line) (get_elem? anchors pc)) none

-- ## 3. With deltas
-- anchors from the front while their pc is not above the one sought: the last, or else the base so far
abbrev pub base_of : ℕ → AbsLineInfo → List AbsLineInfo → AbsLineInfo
base_of pc base [] = base
base_of pc base (a ∷ more) = let later = base_of pc a more in cond (leb a.pc pc) later base

-- the line of the first anchor at a pc, if any; else the line so far
abbrev pub line_at : ℕ → List AbsLineInfo → ℤ → ℤ
line_at i [] line = line
line_at i (a ∷ more) line = let later = line_at i more line in cond (eqb a.pc i) (pos a.line) later

-- the line behind the delta d at pc i: the byte 128 is −128
abbrev pub stepped : List AbsLineInfo → ℕ → ℤ → ℕ → ℤ
stepped anchors i line d = cond (eqb d 128) (line_at i anchors line) (line +ℤ to_z w8 d)

-- behind all of the deltas, the first of which is at pc i
abbrev pub walked : List AbsLineInfo → ℕ → ℤ → Bytes → ℤ
walked anchors i line [] = line
walked anchors i line (d ∷ ds) = walked anchors (i + 1) (stepped anchors i line d) ds

-- below 0 gives 0
abbrev pub raised : ℤ → ℕ
raised (pos n) = n
raised (negsuc n) = 0

-- the deltas from the base itself up to the pc or the last
abbrev pub by_deltas : AbsLineInfo → Bytes → List AbsLineInfo → ℕ → ℕ
by_deltas base deltas anchors pc = raised (walked anchors base.pc (pos base.line) (drop base.pc (take (pc + 1) deltas)))

abbrev pub rule3 : ℕ → Bytes → List AbsLineInfo → ℕ → Option ℕ
rule3 line_defined [] anchors pc = none
rule3 line_defined (d ∷ ds) anchors pc = some (by_deltas (base_of pc (record { pc = 0; line = line_defined }) anchors) (d ∷ ds) anchors pc)

-- ## The rules in their order; 4. otherwise 0
abbrev pub line_of : ℕ → ℕ → Bytes → List AbsLineInfo → ℕ → ℕ
line_of instructions line_defined deltas anchors pc = get_or (rule1 deltas anchors) (get_or (rule2 instructions anchors pc) (get_or (rule3 line_defined deltas anchors pc) 0))

-- ## The answer
-- the first line or an anchor's line is 2^62 or more: refusal 25
abbrev pub large : ℕ → List AbsLineInfo → Bool
large line anchors = any (leb (2 ^ 62)) (line ∷ map (λ (a : AbsLineInfo). a.line) anchors)

abbrev pub answer_of : ℕ → ℕ → Bytes → List AbsLineInfo → ℕ → Result ℕ Refusal
answer_of instructions line_defined deltas anchors pc = cond (large line_defined anchors) (Err LineTooLarge) (Ok (line_of instructions line_defined deltas anchors pc))

-- 21, 22, 1 to 20 and 23 come first
abbrev pub shown_line : ℕ → Asked Prototype → Result ℕ Refusal
shown_line pc (found p) = answer_of (length p.instructions) p.line_defined p.line_info_lem p.abs_line_info pc
shown_line pc (refused q) = Err q
