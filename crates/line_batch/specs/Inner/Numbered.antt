-- The lines of anchors by their numbers, going forward: what the code's parts give.
use Rattle.std.specs.Prelude.{cond, List, [], ◌∷◌, ℕ, ◌+◌, leb, ltb}
use Rattle.format.specs.declared.entry.AbsLineInfo.{AbsLineInfo}
use Rattle.format.specs.Form.{Bytes}
use Rattle.line_batch.specs.declared.numbered.Numbered.{Numbered}
use Rattle.line_batch.specs.Inner.Anchors.{anchors_of}

-- the anchors that are left, how many were passed, and the line of the last one passed
pub record Passed : Type 0 where
  pub left : List AbsLineInfo
  pub number : ℕ
  pub line : ℕ

abbrev pub passed_by : Bytes → Numbered → Passed
passed_by s z = record { left = anchors_of s z.rest; number = z.number; line = z.line }

-- up to the one whose number is the pc
abbrev pub pass_up : ℕ → List AbsLineInfo → ℕ → ℕ → Passed
pass_up pc [] number line = record { left = []; number = number; line = line }
pass_up pc (a ∷ more) number line =
    let passed = pass_up pc more (number + 1) a.line in
    cond (leb number pc) passed (record { left = a ∷ more; number = number; line = line })

abbrev pub pass_to : ℕ → Passed → Passed
pass_to pc z = pass_up pc z.left z.number z.line

-- of the pcs at the front that are below n
abbrev pub numbered_from : ℕ → Passed → List ℕ → List ℕ
numbered_from n z [] = []
numbered_from n z (pc ∷ pcs) =
    let more = numbered_from n (pass_to pc z) pcs in
    cond (ltb pc n) ((pass_to pc z).line ∷ more) []

abbrev pub none_passed : List AbsLineInfo → Passed
none_passed anchors = record { left = anchors; number = 0; line = 0 }
