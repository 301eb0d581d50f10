-- One pass over a function's anchors: what the code's parts give.
use Rattle.std.specs.Prelude.{Result, Ok, Err}
use Rattle.format.specs.declared.refusal.Refusal.{Refusal}
use Rattle.std.specs.Prelude.{Bool, true, false, cond, List, [], ◌∷◌, ℕ, ◌+◌, ◌-◌, ◌^◌, eqb, leb, ltb, get_or}
use Rattle.format.specs.declared.entry.AbsLineInfo.{AbsLineInfo}
use Rattle.format.specs.Form.{Bytes}
use Rattle.format.specs.Read.{Read, ok, refused}
use Rattle.line_anchors.specs.declared.Scan.{Scan}
use Rattle.line_anchors.specs.declared.Sought.{Sought}
use Rattle.line_anchors.specs.declared.Sought.TheVariants.{Ahead, At}

abbrev pub or_large : Bool → ℕ → Bool
or_large b line = cond b true (leb (2 ^ 62) line)

abbrev pub still_taking : Bool → ℕ → AbsLineInfo → Bool
still_taking b pc a = cond b (leb a.pc pc) false

-- `deltas` are those up to the pc
abbrev pub reset_by : Bytes → AbsLineInfo → AbsLineInfo → AbsLineInfo
reset_by deltas r a = cond (eqb (get_or deltas a.pc 0) 128) (cond (ltb a.pc r.pc) r (record { pc = a.pc + 1; line = a.line })) r

abbrev pub seek_by : Sought → ℕ → Sought
seek_by (At l) line = At l
seek_by (Ahead before) line = cond (eqb before 0) (At line) (Ahead (before - 1))

abbrev pub passed : Bytes → ℕ → Scan → AbsLineInfo → Scan
passed deltas pc z a = record {
  large = or_large z.large a.line;
  taking = still_taking z.taking pc a;
  base = cond (still_taking z.taking pc a) a z.base;
  reset = reset_by deltas z.reset a;
  sought = seek_by z.sought a.line;
}

abbrev pub scanned : Bytes → ℕ → Scan → List AbsLineInfo → Scan
scanned deltas pc z [] = z
scanned deltas pc z (a ∷ more) = scanned deltas pc (passed deltas pc z a) more

abbrev pub start_of : ℕ → ℕ → Scan
start_of pc line_defined = record { large = leb (2 ^ 62) line_defined; taking = true; base = record { pc = 0; line = line_defined }; reset = record { pc = 0; line = 0 }; sought = Ahead pc }

abbrev pub scan_result : Bytes → ℕ → Scan → Read (List AbsLineInfo) → Result Scan Refusal
scan_result deltas pc z (ok anchors to rest) = Ok (scanned deltas pc z anchors)
scan_result deltas pc z (refused q) = Err q
