-- The same lines and the same number by one walk: what the code's parts give.
use Rattle.std.specs.Prelude.{cond, List, [], ◌∷◌, ℕ, ◌+◌, leb, ℤ, pos, ◌+ℤ◌, length, take, drop}
use Rattle.format.specs.declared.entry.AbsLineInfo.{AbsLineInfo}
use Rattle.format.specs.Form.{Bytes}
use Rattle.line_lookup.specs.Lines.{raised}
use Rattle.line_lookup.specs.Inner.Scan.{summed}

-- the anchors that are not taken yet, the number of the next delta, the base's line, the sum of the deltas read from it on, and how many deltas were read in all
pub record Step : Type 0 where
  pub left : List AbsLineInfo
  pub at : ℕ
  pub from : ℕ
  pub sum : ℤ
  pub read : ℕ

-- takes anchors while their pc is not above the one sought
abbrev pub take_up : ℕ → List AbsLineInfo → ℕ → ℕ → ℤ → ℕ → Step
take_up pc [] at from sum read = record { left = []; at = at; from = from; sum = sum; read = read }
take_up pc (a ∷ more) at from sum read =
    let taken = take_up pc more a.pc a.line (pos 0) read in
    cond (leb a.pc pc) taken (record { left = a ∷ more; at = at; from = from; sum = sum; read = read })

abbrev pub take_step : ℕ → Step → Step
take_step pc z = take_up pc z.left z.at z.from z.sum z.read

-- reads the deltas up to the pc
abbrev pub read_up : Bytes → ℕ → Step → Step
read_up deltas pc z =
    let part = drop z.at (take (pc + 1) deltas) in
    record { left = z.left; at = z.at + length part; from = z.from; sum = summed z.sum part; read = z.read + length part }

abbrev pub forward : Bytes → ℕ → Step → Step
forward deltas pc z = read_up deltas pc (take_step pc z)

-- the line: 0 without deltas
abbrev pub line_by : Bytes → ℕ → ℤ → ℕ
line_by [] from sum = 0
line_by (d ∷ ds) from sum = raised (pos from +ℤ sum)

abbrev pub line_in : Bytes → Step → ℕ
line_in deltas z = line_by deltas z.from z.sum

-- all pcs: the lines, and where it ends
abbrev pub lines_from : Bytes → Step → List ℕ → List ℕ
lines_from deltas z [] = []
lines_from deltas z (pc ∷ pcs) = line_in deltas (forward deltas pc z) ∷ lines_from deltas (forward deltas pc z) pcs

abbrev pub end_of : Bytes → Step → List ℕ → Step
end_of deltas z [] = z
end_of deltas z (pc ∷ pcs) = end_of deltas (forward deltas pc z) pcs
