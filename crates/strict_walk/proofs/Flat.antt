-- The stricter reader of a function is made of its parts: said as one run of steps the two are the same. (As read_prototype's `Flat.antt`.)
-- Assumes nothing.
use mathlib.Core.Path.{◌≡◌, refl, sym, ◌∙◌}
use mathlib.Core.List.{List, ◌∷◌}
use Prim.Native.Nat.{ℕ, zero, suc, ◌+◌}
use lib.ListN.{length}
use Rattle.format.specs.declared.limits.ResourceLimits.{ResourceLimits}
use Rattle.format.specs.declared.refusal.Refusal.TheVariants.{Instructions, TotalInstructions, Constants, Upvalues, Prototypes}
use Rattle.format.specs.Form.{Bytes}
use Rattle.format.specs.Reading.{Prototype}
use Rattle.format.specs.GrammarChunk.{inherit, Where, within, prototype}
use Rattle.format.specs.Read.{ok, Reader, next, at_most, run, many}
use Rattle.format.specs.ReadFields.{field, byte, string}
use Rattle.format.specs.ReadChunk.{upvalue, forest}
use Rattle.format_strict.specs.ReadStrict.{int, strict_counted, strict_counted_up_to, strict_constant, strict_anchor, strict_local, strict_body, strict_function}
use Rattle.read_list.proofs.Within.{regroup}
use Rattle.read_prototype.specs.Inner.Whole.{prototype_of, inside, joined}
use Rattle.read_walk.specs.Inner.Skim.{entered_by}
use Rattle.strict_walk.specs.Inner.StrictParts.{strict_head, strict_tail}

-- the steps of `strictBody`, each with the place where it begins
steps : ResourceLimits → (Where → Reader (List Prototype)) → Where → Reader (List Prototype)
steps L r w at s =
    next (string L.max_string_bytes at s) (λ spelt a1 s1.
    next (int a1 s1) (λ line_defined a2 s2.
    next (int a2 s2) (λ last_line_defined a3 s3.
    next (byte a3 s3) (λ numparams a4 s4.
    next (byte a4 s4) (λ is_vararg a5 s5.
    next (byte a5 s5) (λ maxstacksize a6 s6.
    next (int a6 s6) (λ size a7 s7.
    next (at_most size L.max_instructions_per_proto (Instructions a6) a7 s7) (λ _ a8 s8.
    next (at_most (w.instructions + size) L.max_total_instructions (TotalInstructions a6) a8 s8) (λ _ a9 s9.
    next (many size (field 4) a9 s9) (λ instructions a10 s10.
    next (strict_counted_up_to L.max_constants_per_proto Constants (strict_constant L.max_string_bytes) a10 s10) (λ constants a11 s11.
    next (strict_counted_up_to L.max_upvalues_per_proto Upvalues upvalue a11 s11) (λ upvalues a12 s12.
    next (int a12 s12) (λ protos a13 s13.
    next (at_most protos L.max_total_prototypes (Prototypes a12) a13 s13) (λ _ a14 s14.
    next (forest protos r (within w (inherit spelt w.source) (length instructions)) a14 s14) (λ nested a15 s15.
    next (int a15 s15) (λ line-info-size a16 s16.
    next (run line-info-size a16 s16) (λ line_info_lem a17 s17.
    next (strict_counted strict_anchor a17 s17) (λ abs_line_info a18 s18.
    next (strict_counted (strict_local L.max_string_bytes) a18 s18) (λ loc_vars a19 s19.
    next (strict_counted (string L.max_string_bytes) a19 s19) (λ upvalue_names_lem a20 s20.
    ok (prototype w at spelt line_defined last_line_defined numparams is_vararg maxstacksize (record { place = a9; items = instructions }) constants upvalues a14 protos (record { place = a16; items = line_info_lem }) abs_line_info loc_vars upvalue_names_lem a20 ∷ nested) a20 s20))))))))))))))))))))

as_steps : (L : ResourceLimits) (r : Where → Reader (List Prototype)) (w : Where) (at : ℕ) (s : Bytes) → steps L r w at s ≡ strict_body L r w at s
unfolding strict_body steps
as_steps L r w at s = refl

-- the same of the parts
part_steps : ResourceLimits → (Where → Reader (List Prototype)) → Where → Reader (List Prototype)
part_steps L r w at s =
    next (strict_head L w.instructions at s) (λ h a b.
    next (forest h.protos.count r (inside w h) a b) (λ nested c d.
    next (strict_tail L.max_string_bytes c d) (λ t e f.
    ok (prototype_of w at h t e ∷ nested) e f)))

as_part_steps : (L : ResourceLimits) (r : Where → Reader (List Prototype)) (w : Where) (at : ℕ) (s : Bytes) → part_steps L r w at s ≡ joined r (strict_head L w.instructions) (strict_tail L.max_string_bytes) w at s
unfolding part_steps
as_part_steps L r w at s = refl

in_steps : (L : ResourceLimits) (r : Where → Reader (List Prototype)) (w : Where) (at : ℕ) (s : Bytes) → part_steps L r w at s ≡ steps L r w at s
unfolding steps part_steps
in_steps L r w at s = simp regroup

in_parts : (L : ResourceLimits) (r : Where → Reader (List Prototype)) (w : Where) (at : ℕ) (s : Bytes) → strict_body L r w at s ≡ joined r (strict_head L w.instructions) (strict_tail L.max_string_bytes) w at s
in_parts L r w at s = sym (as_steps L r w at s) ∙ sym (in_steps L r w at s) ∙ as_part_steps L r w at s

function-body : (L : ResourceLimits) (left : ℕ) (w : Where) (at : ℕ) (s : Bytes) → strict_function L left w at s ≡ strict_body L (entered_by (strict_function L) L left) w at s
unfolding strict_function
function-body L zero w at s = refl
function-body L (suc left) w at s = refl

pub by_parts : (L : ResourceLimits) (left : ℕ) (w : Where) (at : ℕ) (s : Bytes) → strict_function L left w at s ≡ joined (entered_by (strict_function L) L left) (strict_head L w.instructions) (strict_tail L.max_string_bytes) w at s
by_parts L left w at s = function-body L left w at s ∙ in_parts L (entered_by (strict_function L) L left) w at s
