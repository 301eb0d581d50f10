-- The numbers of findings for C (include/lafzimdo.h), four each (those of one: crates/c_finding/proofs/Cases.antt), and the two of the answer. antt computes them.
--     list_holds       two findings one after the other
--     answers_hold     the verdict, and how many findings
--     written_holds    the numbers of a chunk's one finding at the front of a list of 8, 7, 4 and 3 numbers: four are needed
-- Told apart: verdict and count exchanged, findings in another order, room counted in numbers or rounded up, the list touched behind the findings or on a refusal.
-- Assumes nothing.
use Rattle.std.specs.Prelude.{Ok, Err}
use mathlib.Core.Path.{◌≡◌, refl}
use mathlib.Core.List.{[], ◌∷◌, ◌++◌, map}
use Prim.Native.Nat.{ℕ}
use lib.IntN.{pos}
use lib.ListN.{replicate}
use Rattle.format.specs.declared.refusal.Refusal.TheVariants.{LentSpace}
use Rattle.format.specs.Form.{Bytes}
use Rattle.format.specs.Limits.{ceilings}
use Rattle.format.specs.ReadChunk.{body, function, read}
use Rattle.format.proofs.Distinct.{header}
use Rattle.word_fields.specs.Word.{decoded}
use Rattle.validate_rules.specs.Rules.{instruction}
use Rattle.validate_rules.specs.Findings.{code_groups, groups, limited, chunk_findings}
use Rattle.validate_rules.specs.declared.finding.Rule.TheVariants.{Register, Jump}
use Rattle.validate_rules.specs.declared.finding.Verdict.TheVariants.{ValidForAnalysis, Invalid, Incomplete}
use Rattle.c_boundary.specs.Status.{done, refuses}
use Rattle.c_findings.specs.FindingNumbers.{list_numbers, of_findings, numbers_written}

list_holds : list_numbers (record { function = 1; pc = 2; rule = Register 3 } ∷ record { function = 4; pc = 5; rule = Jump (pos 6) } ∷ []) ≡ 1 ∷ 2 ∷ 2 ∷ 3 ∷ 4 ∷ 5 ∷ 7 ∷ 6 ∷ []
unfolding list_numbers
list_holds = refl

answers_hold : of_findings (Ok (ValidForAnalysis, 3)) ∷ of_findings (Ok (Invalid, 4)) ∷ of_findings (Ok (Incomplete, 10001)) ∷ of_findings (Err LentSpace) ∷ []
    ≡ done (0 ∷ 3 ∷ []) ∷ done (1 ∷ 4 ∷ []) ∷ done (2 ∷ 10001 ∷ []) ∷ refuses LentSpace ∷ []
answers_hold = refl

-- one word, 00000053
chunk : Bytes
chunk = header ++ (0 ∷ 0x80 ∷ 0x80 ∷ 0x80 ∷ 0 ∷ 0 ∷ 2 ∷ 0x81 ∷ 0x53 ∷ 0 ∷ 0 ∷ 0 ∷ replicate 7 0x80)

written_holds : map (λ (n : ℕ). numbers_written (replicate n 77) (read ceilings chunk)) (8 ∷ 7 ∷ 4 ∷ 3 ∷ [])
    ≡ (0 ∷ 0 ∷ 1 ∷ 83 ∷ replicate 4 77) ∷ (0 ∷ 0 ∷ 1 ∷ 83 ∷ replicate 3 77) ∷ (0 ∷ 0 ∷ 1 ∷ 83 ∷ []) ∷ replicate 3 77 ∷ []
unfolding chunk list_numbers read body function chunk_findings groups code_groups limited instruction decoded
written_holds = refl
