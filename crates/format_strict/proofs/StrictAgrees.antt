-- The stricter reader goes as the ordinary one but for 31, 32 and 33: what it gives, or refuses with another number, the ordinary one gives, or refuses so.
--     Agrees r r'          r is such a stricter reader for r'; one law for each way to make a reader
--     strict_agrees        of whole chunks: a refusal of the stricter reading with a number below 31 is the ordinary reading's
--     besides              so a chunk that is read, and not strictly, is refused by a number from 31 on
-- Assumes nothing.
use mathlib.Core.Path.{◌≡◌, refl, sym, ◌∙◌}
use mathlib.Core.Bool.{Bool, true, false, cond}
use mathlib.Core.List.{List, [], ◌∷◌, ◌++◌}
use mathlib.Core.Option.{Option, none, some, get_or}
use Prim.Native.Nat.{ℕ, zero, suc, ◌+◌, ◌-◌, ◌^◌, ◌≤◌, ◌<◌}
use native.Mathlib.Omega.{arith}
use lib.Dec.{eqb, leb, ltb}
use lib.ListN.{length}
use borrow.Author.Tests.{ltb-true, ltb-false}
use Rattle.format.specs.declared.limits.ResourceLimits.{ResourceLimits}
use Rattle.format.specs.declared.refusal.Refusal.{Refusal}
use Rattle.format.specs.declared.refusal.Refusal.TheVariants.{ConstantTag, Instructions, TotalInstructions, Constants, Upvalues, Prototypes, NestingDepth, TotalPrototypes, LimitAboveCeiling, InputBytes, Format, IntOverflow}
use Rattle.format.specs.Refusals.{reported}
use Rattle.format.specs.Form.{Bytes}
use Rattle.format.specs.Limits.{within_ceilings}
use Rattle.format.specs.GrammarFields.{LuaString, little}
use Rattle.format.specs.GrammarHeader.{header_of, format_warnings}
use Rattle.format.specs.Reading.{integer, float, Prototype, Reading}
use Rattle.format.specs.GrammarChunk.{inherit, Where, after, within, outermost, Loaded}
use Rattle.format.specs.Read.{Read, ok, refused, Reader, next, ◌>>=◌, ◌>>◌, give, here, refuse, test, at_most, run, many}
use Rattle.format.specs.ReadFields.{field, byte, number, string}
use Rattle.format.specs.ReadHeader.{same_bytes, expect, before_format, behind_format, header}
use Rattle.format.specs.ReadChunk.{counted, counted_up_to, always, tagged, constant, upvalue, anchor, local, forest, body, function, main, shown, refusal, outcome, read}
use Rattle.format_strict.specs.ReadStrict.{int, strict_counted, strict_counted_up_to, there, present, strict_tagged, strict_constant, strict_anchor, strict_local, strict_body, strict_function, strict_header, strict_main, strict_read}
use Rattle.format.proofs.ExactHeader.{same_eq}
use Rattle.format.proofs.ReadChunkLaws.{no_refusal}

abbrev pub Agree : {A : Type 0} → Read A → Read A → Type 0
Agree (ok x to rest) o = o ≡ ok x to rest
Agree (refused q) o = (reported q).number < 31 → o ≡ refused q

pub record Agrees {A : Type 0} (r r' : Reader A) : Type 0 where
  pub agrees : (at : ℕ) (s : Bytes) → Agree (r at s) (r' at s)

-- ## One law for each way to make a reader
same : {A : Type 0} (o : Read A) → Agree o o
same (ok x to rest) = refl
same (refused q) = λ h. refl

as_it_is : {A : Type 0} (r : Reader A) → Agrees r r
as_it_is r = record { agrees = λ at s. same (r at s) }

then : {A B : Type 0} {r r' : Reader A} {f f' : A → Reader B} → Agrees r r' → ((x : A) → Agrees (f x) (f' x)) → Agrees (r >>= f) (r' >>= f')
then {A} {B} {r} {r'} {f} {f'} one two = record { agrees = λ at s. go (r at s) (r' at s) (one.agrees at s) }
  where
    go : (o o' : Read A) → Agree o o' → Agree (next o f) (next o' f')
    go (ok x to rest) o' e = rw e ((two x).agrees to rest)
    go (refused q) o' e = λ h. rw (e h) refl

-- what is the same in both
behind : {A B : Type 0} (r : Reader A) {f f' : A → Reader B} → ((x : A) → Agrees (f x) (f' x)) → Agrees (r >>= f) (r >>= f')
behind r two = then (as_it_is r) two

either : {A : Type 0} {r r' u u' : Reader A} (b : Bool) → Agrees r r' → Agrees u u' → Agrees (cond b r u) (cond b r' u')
either true one two = one
either false one two = two

many_agree : {A : Type 0} {r r' : Reader A} (n : ℕ) → Agrees r r' → Agrees (many n r) (many n r')
many_agree zero one = as_it_is (give [])
many_agree (suc n) one = then one λ x. then (many_agree n one) λ xs. as_it_is (give _)

-- ## 32
int_agrees : Agrees int number
int_agrees = record { agrees = λ at s. go at (number at s) }
  where
    small : (b : Bool) (at n to : ℕ) (rest : Bytes) → Agree (next (test b (IntOverflow at) to rest) (λ _. give n)) (ok n to rest)
    small true at n to rest = refl
    small false at n to rest = λ h. absurd (omega arith)

    go : (at : ℕ) (o : Read ℕ) → Agree (next o (λ n. test (ltb n (2 ^ 31 - 128)) (IntOverflow at) >>= λ _. give n)) o
    go at (ok n to rest) = small (ltb n (2 ^ 31 - 128)) at n to rest
    go at (refused q) = λ h. refl

counted_agrees : {A : Type 0} {r r' : Reader A} → Agrees r r' → Agrees (strict_counted r) (counted r')
counted_agrees one = then int_agrees λ n. behind here λ place. then (many_agree n one) λ items. as_it_is (give _)

up_to_agrees : {A : Type 0} {r r' : Reader A} (limit : ℕ) (above : ℕ → Refusal) → Agrees r r' → Agrees (strict_counted_up_to limit above r) (counted_up_to limit above r')
up_to_agrees limit above one = behind here λ first. then int_agrees λ n. behind (at_most n limit (above first)) λ _. behind here λ place. then (many_agree n one) λ items. as_it_is (give _)

-- ## 33
present_agrees : (limit : ℕ) → Agrees (present limit) (always limit [])
present_agrees limit = record { agrees = λ at s. go at (string limit at s) }
  where
    go : (at : ℕ) (o : Read (Option LuaString)) → Agree (next o (there at)) (next o (λ t. here >>= λ place. give (get_or t (record { place = place; bytes = [] }))))
    go at (ok none to rest) = λ h. absurd (omega arith)
    go at (ok (some t) to rest) = refl
    go at (refused q) = λ h. refl

tagged_agrees : (limit place tag : ℕ) → Agrees (strict_tagged limit place tag) (tagged limit place tag)
tagged_agrees limit place tag =
    either (eqb tag 0) (as_it_is _)
    (either (eqb tag 1) (as_it_is _)
    (either (eqb tag 17) (as_it_is _)
    (either (eqb tag 3) (as_it_is (field 8 >>= λ n. give (integer n)))
    (either (eqb tag 19) (as_it_is (field 8 >>= λ n. give (float n)))
    (either (eqb tag 4) (then (present_agrees limit) λ t. as_it_is (give _))
    (either (eqb tag 20) (then (present_agrees limit) λ t. as_it_is (give _))
    (as_it_is (refuse (ConstantTag place)))))))))

constant_agrees : (limit : ℕ) → Agrees (strict_constant limit) (constant limit)
constant_agrees limit = behind here λ place. behind byte λ tag. tagged_agrees limit place tag

anchor_agrees : Agrees strict_anchor anchor
anchor_agrees = then int_agrees λ pc. then int_agrees λ line. as_it_is (give _)

local_agrees : (limit : ℕ) → Agrees (strict_local limit) (local limit)
local_agrees limit = behind (always limit (63 ∷ [])) λ name. then int_agrees λ startpc. then int_agrees λ endpc. as_it_is (give _)

-- ## Functions
forest_agrees : (n : ℕ) {r r' : Where → Reader (List Prototype)} (w : Where) → ((w : Where) → Agrees (r w) (r' w)) → Agrees (forest n r w) (forest n r' w)
forest_agrees zero w one = as_it_is (give [])
forest_agrees (suc n) w one = then (one w) λ ps. then (forest_agrees n (after ps w) one) λ more. as_it_is (give (ps ++ more))

body_agrees : (L : ResourceLimits) {r r' : Where → Reader (List Prototype)} → ((w : Where) → Agrees (r w) (r' w)) → (w : Where) → Agrees (strict_body L r w) (body L r' w)
unfolding strict_body body
body_agrees L one w =
    behind here λ start.
    behind (string L.max_string_bytes) λ spelt.
    then int_agrees λ line_defined.
    then int_agrees λ last_line_defined.
    behind byte λ numparams.
    behind byte λ is_vararg.
    behind byte λ maxstacksize.
    behind here λ first.
    then int_agrees λ size.
    behind (at_most size L.max_instructions_per_proto (Instructions first)) λ _.
    behind (at_most (w.instructions + size) L.max_total_instructions (TotalInstructions first)) λ _.
    behind here λ instructions_at.
    behind (many size (field 4)) λ instructions.
    then (up_to_agrees L.max_constants_per_proto Constants (constant_agrees L.max_string_bytes)) λ constants.
    then (up_to_agrees L.max_upvalues_per_proto Upvalues (as_it_is upvalue)) λ upvalues.
    behind here λ first.
    then int_agrees λ protos.
    behind (at_most protos L.max_total_prototypes (Prototypes first)) λ _.
    behind here λ protos-at.
    then (forest_agrees protos (within w (inherit spelt w.source) (length instructions)) one) λ nested.
    then int_agrees λ line-info-size.
    behind here λ line-info-at.
    behind (run line-info-size) λ line_info_lem.
    then (counted_agrees anchor_agrees) λ abs_line_info.
    then (counted_agrees (local_agrees L.max_string_bytes)) λ loc_vars.
    then (counted_agrees (as_it_is (string L.max_string_bytes))) λ upvalue_names_lem.
    behind here λ end.
    as_it_is (give _)

function_agrees : (L : ResourceLimits) (left : ℕ) (w : Where) → Agrees (strict_function L left w) (function L left w)
unfolding strict_function function
function_agrees L zero w = body_agrees L (λ w. behind here λ place. as_it_is (refuse (NestingDepth place))) w
function_agrees L (suc left) w = body_agrees L (λ w. behind here λ place. behind (at_most w.number L.max_total_prototypes (TotalPrototypes place)) λ _. function_agrees L left w) w

-- ## 31
format_agrees : {A : Type 0} (r : Reader A) (f : ℕ → ℕ → Reader A) → ((place : ℕ) → Agrees r (f place 0)) → Agrees (expect (0 ∷ []) Format >> r) (here >>= λ place. byte >>= f place)
format_agrees r f rest = record { agrees = λ at s. go at (run 1 at s) }
  where
    by : (at to : ℕ) (b s : Bytes) (t : Bool) → same_bytes b (0 ∷ []) ≡ t → Agree (next (test t (Format at) to s) (λ _. r)) (f at (little b) to s)
    by at to b s true e = let zero-byte : b ≡ 0 ∷ [] = same_eq b (0 ∷ []) (rw e tt) in rw zero-byte ((rest at).agrees to s)
    by at to b s false e = λ h. absurd (omega arith)

    go : (at : ℕ) (o : Read Bytes) → Agree (next (next o (λ b. test (same_bytes b (0 ∷ [])) (Format at))) (λ _. r)) (next (next o (λ b. give (little b))) (f at))
    go at (ok b to s) = by at to b s (same_bytes b (0 ∷ [])) refl
    go at (refused q) = λ h. refl

header_agrees : Agrees strict_header header
header_agrees = behind before_format λ _. format_agrees _ (λ place format. behind_format >> give (record { header = header_of format; warnings = format_warnings place format })) λ place. as_it_is _

pub main_agrees : (L : ResourceLimits) → Agrees (strict_main L) (main L)
main_agrees L = then header_agrees λ headed. behind byte λ forgotten. then (function_agrees L L.max_nesting_depth outermost) λ functions. as_it_is (give _)

-- ## Whole chunks
pub strict_agrees : (L : ResourceLimits) (s : Bytes) (q : Refusal) → strict_read L s ≡ refusal q → (reported q).number < 31 → read L s ≡ refusal q
unfolding strict_read read
strict_agrees L s q = go (within_ceilings L) (leb (length s) L.max_input_bytes) (strict_main L 0 s) (main L 0 s) ((main_agrees L).agrees 0 s)
  where
    by : (o o' : Read Loaded) → Agree o o' → outcome L o ≡ refusal q → (reported q).number < 31 → outcome L o' ≡ refusal q
    by (ok m to rest) o' a e h = no_refusal (sym e)
    by (refused p) o' a e h = let is : p ≡ q = cc in let low : (reported p).number < 31 = rw is h in rw (a low, is)

    go : (within short : Bool) (o o' : Read Loaded) → Agree o o' → cond within (cond short (outcome L o) (refusal InputBytes)) (refusal LimitAboveCeiling) ≡ refusal q → (reported q).number < 31
        → cond within (cond short (outcome L o') (refusal InputBytes)) (refusal LimitAboveCeiling) ≡ refusal q
    go true true o o' a e h = by o o' a e h
    go true false o o' a e h = e
    go false short o o' a e h = e

pub besides : (L : ResourceLimits) (s : Bytes) (r : Reading) (q : Refusal) → read L s ≡ shown r → strict_read L s ≡ refusal q → 31 ≤ (reported q).number
besides L s r q is e = by (ltb (reported q).number 31) refl
  where
    by : (b : Bool) → ltb (reported q).number 31 ≡ b → 31 ≤ (reported q).number
    by true h = no_refusal (sym (sym is ∙ strict_agrees L s q e (ltb-true (reported q).number 31 h)))
    by false h = ltb-false (reported q).number 31 h
