-- Validation from the bytes of a chunk with two reading warnings, whose main has a word that breaks one rule and one that breaks two, and whose other function has a word without an opcode; antt computes all.
--     verdict_holds, count_holds       invalid; four findings (the reading's warnings are not among them)
--     findings_hold                    with room for four, for five and for three: the answer, and what stands in the list
-- Told apart: the reading's warnings counted or listed, the operand's finding first, numbers of functions or instructions from 1, room for exactly as many not enough, the list touched on refusal 26.
-- Assumes nothing.
use Rattle.std.specs.Prelude.{Result, Ok, Err}
use Rattle.format.specs.declared.refusal.Refusal.{Refusal}
use Rattle.validate_rules.specs.declared.finding.Verdict.{Verdict}
use mathlib.Core.Path.{◌≡◌, refl}
use mathlib.Core.List.{List, [], ◌∷◌, ◌++◌, map}
use Prim.Native.Nat.{ℕ}
use lib.ListN.{replicate}
use Rattle.format.specs.declared.refusal.Refusal.TheVariants.{LentSpace}
use Rattle.format.specs.Form.{Bytes}
use Rattle.format.specs.Limits.{ceilings}
use Rattle.format.specs.ReadChunk.{body, function, Outcome, read}
use Rattle.format.proofs.Distinct.{header}
use Rattle.word_fields.specs.Word.{decoded}
use Rattle.validate_rules.specs.declared.finding.Finding.{Finding}
use Rattle.validate_rules.specs.declared.finding.Rule.{Rule}
use Rattle.validate_rules.specs.declared.finding.Rule.TheVariants.{Opcode, Register, Upvalue}
use Rattle.validate_rules.specs.declared.finding.Verdict.TheVariants.{Invalid}
use Rattle.validate_rules.specs.Rules.{instruction}
use Rattle.validate_rules.specs.Findings.{code_groups, groups, limited, chunk_findings}
use Rattle.validate_verdict.specs.Answers.{shownVerdict, shownCount}
use Rattle.validate_plan.specs.Validated.{shown_findings, findings_written}

-- stack 2; MOVE to register 2, GETUPVAL of upvalue 0 to register 2; in it 00000053; format 3 and a trailing byte
bytes : Bytes
bytes =
    header ++ (0 ∷ 0x80 ∷ 0x80 ∷ 0x80 ∷ 0 ∷ 0 ∷ 2 ∷ 0x82 ∷ 0 ∷ 1 ∷ 0 ∷ 0 ∷ 9 ∷ 1 ∷ 0 ∷ 0 ∷ 0x80 ∷ 0x80 ∷ 0x81
    ∷ 0x80 ∷ 0x80 ∷ 0x80 ∷ 0 ∷ 0 ∷ 2 ∷ 0x81 ∷ 0x53 ∷ 0 ∷ 0 ∷ 0 ∷ replicate 7 0x80) ++ replicate 4 0x80 ++ 9 ∷ []

abbrev at : ℕ → ℕ → Rule → Finding
at k pc rule = record { function = k; pc = pc; rule = rule }

abbrev four : List Finding
four = at 0 0 (Register 2) ∷ at 0 1 (Register 2) ∷ at 0 1 (Upvalue 0) ∷ at 1 0 (Opcode 0x53) ∷ []

-- what the caller's list holds
abbrev old : ℕ → List Finding
old n = replicate n (at 7 7 (Register 7))

abbrev chunk : Outcome
chunk = read ceilings bytes

verdict_holds : shownVerdict chunk ≡ Ok Invalid
unfolding bytes read body function chunk_findings groups code_groups limited instruction decoded
verdict_holds = refl

count_holds : shownCount chunk ≡ Ok 4
unfolding bytes read body function chunk_findings groups code_groups limited instruction decoded
count_holds = refl

cases : List (ℕ × (Result (Verdict × ℕ) Refusal) × List Finding)
cases = (4, Ok (Invalid, 4), four) ∷ (5, Ok (Invalid, 4), four ++ old 1) ∷ (3, Err LentSpace, old 3) ∷ []

answers_hold : map (λ c. shown_findings c.0 chunk) cases ≡ map (λ c. c.1) cases
unfolding cases bytes read body function chunk_findings groups code_groups limited instruction decoded
answers_hold = refl

findings_hold : map (λ c. findings_written (old c.0) chunk) cases ≡ map (λ c. c.2) cases
unfolding cases bytes read body function chunk_findings groups code_groups limited instruction decoded
findings_hold = refl
