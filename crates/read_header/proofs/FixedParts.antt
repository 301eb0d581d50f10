-- The fixed parts of the header, one behind the other: what the calls of `and_expect` show is what the chain of readers gives.
-- Assumes nothing.
use Rattle.std.specs.Prelude.{Result}
use Rattle.slice.specs.declared.cursor.Cursor.{Cursor}
use mathlib.Core.Path.{◌≡◌, refl, ◌∙◌, ap}
use mathlib.Core.List.{[], ◌∷◌}
use Prim.Native.Nat.{ℕ}
use lib.ListN.{drop}
use Rattle.format.specs.declared.refusal.Refusal.{Refusal}
use Rattle.format.specs.declared.refusal.Refusal.TheVariants.{Signature, Version, LuacData, InstructionSize, LuaIntegerSize, LuaNumberSize, LuacInt, LuacNum}
use Rattle.format.specs.Form.{Bytes, Form, Then, Spelt}
use Rattle.format.specs.Read.{Reader, ◌>>◌}
use Rattle.format.specs.GrammarHeader.{signature, luac_data, luac_int, luac_num}
use Rattle.format.specs.ReadHeader.{expect, before_format, behind_format}
use Rattle.format.proofs.Exact.{Exact, exact_then}
use Rattle.format.proofs.ExactHeader.{exact_expect}
use Rattle.slice.specs.Inner.Results.{cursor_result, and_then}
use Rattle.read_field.proofs.Shows.{on, regroup}

-- what a call behind another shows
abbrev Behind : Bytes → Bytes → (ℕ → Refusal) → Result Cursor Refusal → Result Cursor Refusal → Type 0
Behind s bytes q x y = y ≡ and_then x (λ to. cursor_result (expect bytes q to (drop to s)))

pub before : (s : Bytes) (at : ℕ) {x y : Result Cursor Refusal} → x ≡ cursor_result (expect signature Signature at (drop at s)) → Behind s (0x54 ∷ []) Version x y → y ≡ cursor_result (before_format at (drop at s))
before s at a b = on s at (exact_expect signature Signature) (expect (0x54 ∷ []) Version) a b

-- the parts behind the format byte
abbrev luac : Reader (Unit {0})
luac = expect luac_data LuacData

abbrev size : Reader (Unit {0})
size = expect (4 ∷ []) InstructionSize

abbrev integer : Reader (Unit {0})
integer = expect (8 ∷ []) LuaIntegerSize

abbrev float : Reader (Unit {0})
float = expect (8 ∷ []) LuaNumberSize

abbrev int : Reader (Unit {0})
int = expect luac_int LuacInt

abbrev num : Reader (Unit {0})
num = expect luac_num LuacNum

pub behind : (s : Bytes) (at : ℕ) {a b c d e f : Result Cursor Refusal} → a ≡ cursor_result (luac at (drop at s))
    → Behind s (4 ∷ []) InstructionSize a b → Behind s (8 ∷ []) LuaIntegerSize b c → Behind s (8 ∷ []) LuaNumberSize c d → Behind s luac_int LuacInt d e → Behind s luac_num LuacNum e f
    → f ≡ cursor_result (behind_format at (drop at s))
behind s at h1 h2 h3 h4 h5 h6 =
    let x1 = exact_expect luac_data LuacData in
    let x2 = exact_then x1 λ _. exact_expect (4 ∷ []) InstructionSize in
    let x3 = exact_then x2 λ _. exact_expect (8 ∷ []) LuaIntegerSize in
    let x4 = exact_then x3 λ _. exact_expect (8 ∷ []) LuaNumberSize in
    let x5 = exact_then x4 λ _. exact_expect luac_int LuacInt in
    on s at x5 num (on s at x4 int (on s at x3 float (on s at x2 integer (on s at x1 size h1 h2) h3) h4) h5) h6
    ∙ ap cursor_result (regroup (((luac >> size) >> integer) >> float) int num at (drop at s)
    ∙ regroup ((luac >> size) >> integer) float (int >> num) at (drop at s)
    ∙ regroup (luac >> size) integer (float >> (int >> num)) at (drop at s)
    ∙ regroup luac size (integer >> (float >> (int >> num))) at (drop at s))
