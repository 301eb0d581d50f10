-- The reader of a function is made of its parts: said as one run of steps the two are the same.
-- Assumes nothing.
use mathlib.Core.Path.{◌≡◌, refl, sym, ◌∙◌}
use mathlib.Core.List.{List, ◌∷◌}
use Prim.Native.Nat.{ℕ, ◌+◌}
use lib.ListN.{length}
use Rattle.format.specs.declared.limits.ResourceLimits.{ResourceLimits}
use Rattle.format.specs.declared.refusal.Refusal.TheVariants.{Instructions, TotalInstructions, Constants, Upvalues, Prototypes}
use Rattle.format.specs.Form.{Bytes}
use Rattle.format.specs.Reading.{Prototype}
use Rattle.format.specs.GrammarChunk.{inherit, Where, within}
use Rattle.format.specs.Read.{Read, ok, refused, Reader, next, at_most, run, many}
use Rattle.format.specs.ReadFields.{field, byte, number, string}
use Rattle.format.specs.ReadChunk.{counted, counted_up_to, constant, upvalue, anchor, local, forest, body}
use Rattle.read_list.proofs.Within.{regroup}
use Rattle.read_prototype.specs.Parts.{head, tail}
use Rattle.read_prototype.specs.Inner.Whole.{prototype_of, inside, parts}

-- the steps of `body`, each with the place where it begins
steps : ResourceLimits → (Where → Reader (List Prototype)) → Where → Reader (List Prototype)
steps L r w at s =
    next (string L.max_string_bytes at s) (λ spelt a1 s1.
    next (number a1 s1) (λ line_defined a2 s2.
    next (number a2 s2) (λ last_line_defined a3 s3.
    next (byte a3 s3) (λ numparams a4 s4.
    next (byte a4 s4) (λ is_vararg a5 s5.
    next (byte a5 s5) (λ maxstacksize a6 s6.
    next (number a6 s6) (λ size a7 s7.
    next (at_most size L.max_instructions_per_proto (Instructions a6) a7 s7) (λ _ a8 s8.
    next (at_most (w.instructions + size) L.max_total_instructions (TotalInstructions a6) a8 s8) (λ _ a9 s9.
    next (many size (field 4) a9 s9) (λ instructions a10 s10.
    next (counted_up_to L.max_constants_per_proto Constants (constant L.max_string_bytes) a10 s10) (λ constants a11 s11.
    next (counted_up_to L.max_upvalues_per_proto Upvalues upvalue a11 s11) (λ upvalues a12 s12.
    next (number a12 s12) (λ protos a13 s13.
    next (at_most protos L.max_total_prototypes (Prototypes a12) a13 s13) (λ _ a14 s14.
    next (forest protos r (within w (inherit spelt w.source) (length instructions)) a14 s14) (λ nested a15 s15.
    next (number a15 s15) (λ line-info-size a16 s16.
    next (run line-info-size a16 s16) (λ line_info_lem a17 s17.
    next (counted anchor a17 s17) (λ abs_line_info a18 s18.
    next (counted (local L.max_string_bytes) a18 s18) (λ loc_vars a19 s19.
    next (counted (string L.max_string_bytes) a19 s19) (λ upvalue_names_lem a20 s20.
    ok (record {
      depth = w.depth;
      parent = w.parent;
      start = at;
      end = a20;
      source_name = inherit spelt w.source;
      line_defined = line_defined;
      last_line_defined = last_line_defined;
      numparams = numparams;
      is_vararg = is_vararg;
      maxstacksize = maxstacksize;
      instructions = instructions;
      constants = constants.items;
      upvalues = upvalues.items;
      protos = protos;
      line_info_lem = line_info_lem;
      abs_line_info = abs_line_info.items;
      loc_vars = loc_vars.items;
      upvalue_names_lem = upvalue_names_lem.items;
      places = record {
        instructions = a9;
        constants = constants.place;
        upvalues = upvalues.place;
        protos = a14;
        line_info_lem = a16;
        abs_line_info = abs_line_info.place;
        loc_vars = loc_vars.place;
        upvalue_names_lem = upvalue_names_lem.place;
      };
    } ∷ nested) a20 s20))))))))))))))))))))

as_steps : (L : ResourceLimits) (r : Where → Reader (List Prototype)) (w : Where) (at : ℕ) (s : Bytes) → steps L r w at s ≡ body L r w at s
unfolding body steps
as_steps L r w at s = refl

-- the same of the parts
part_steps : ResourceLimits → (Where → Reader (List Prototype)) → Where → Reader (List Prototype)
part_steps L r w at s =
    next (head L w.instructions at s) (λ h a b.
    next (forest h.protos.count r (inside w h) a b) (λ nested c d.
    next (tail L.max_string_bytes c d) (λ t e f.
    ok (prototype_of w at h t e ∷ nested) e f)))

as_part_steps : (L : ResourceLimits) (r : Where → Reader (List Prototype)) (w : Where) (at : ℕ) (s : Bytes) → part_steps L r w at s ≡ parts L r w at s
unfolding part_steps
as_part_steps L r w at s = refl

in_steps : (L : ResourceLimits) (r : Where → Reader (List Prototype)) (w : Where) (at : ℕ) (s : Bytes) → part_steps L r w at s ≡ steps L r w at s
unfolding steps part_steps
in_steps L r w at s = simp regroup

pub in_parts : (L : ResourceLimits) (r : Where → Reader (List Prototype)) (w : Where) (at : ℕ) (s : Bytes) → body L r w at s ≡ parts L r w at s
in_parts L r w at s = sym (as_steps L r w at s) ∙ sym (in_steps L r w at s) ∙ as_part_steps L r w at s
