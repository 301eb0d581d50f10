-- Which limit is to blame (Blame.antt), of the stricter reading (02, item 7): what it refuses with 1 to 12 or 31 to
-- 33 is refused alike under all limits that are as high; what it refuses with 13 to 20, as long as
-- the limit that the number names stays.
--     strict_blames    its reader of a chunk
-- Assumes nothing.
use mathlib.Core.Path.{◌≡◌, sym, subst}
use mathlib.Core.List.{List, [], ◌∷◌}
use Prim.Native.Nat.{ℕ, zero, suc, ◌+◌, ◌≤◌}
use native.Mathlib.Omega.{arith}
use lib.Dec.{eqb}
use lib.ListN.{length}
use Rattle.format.specs.declared.limits.ResourceLimits.{ResourceLimits}
use Rattle.format.specs.declared.refusal.Refusal.{Refusal}
use Rattle.format.specs.declared.refusal.Refusal.TheVariants as q
use Rattle.format.specs.Reading.{Prototype}
use Rattle.format.specs.GrammarChunk.{inherit, Where, within}
use Rattle.format.specs.Read.{Reader, ◌>>=◌, ◌>>◌, give, here, refuse, at_most, run, many}
use Rattle.format.specs.ReadFields.{field}
use Rattle.format.specs.ReadChunk.{upvalue}
use Rattle.format_strict.specs.ReadStrict.{int, strict_counted, strict_counted_up_to, there, present, strict_constant, strict_anchor, strict_local, strict_body, strict_function, strict_header, strict_main}
use Rattle.demands.proofs.Blame as blame
use Rattle.demands.proofs.Early.{never, was}
use Rattle.demands.proofs.Blame.{Raised, Stays, SameNamed}

-- where a nested function begins (AtOneByte.antt, `enter`)
abbrev pub strict_enter : ResourceLimits → ℕ → Where → Reader (List Prototype)
strict_enter L zero w = do
  place ← here
  refuse (q.NestingDepth place)
strict_enter L (suc left) w = do
  place ← here
  at_most w.number L.max_total_prototypes (q.TotalPrototypes place)
  strict_function L left w

module _ (L M : ResourceLimits) (wide : Raised L M) where
  same : {A : Type 0} (r : Reader A) → Stays L M r r
  same r = blame.same L M r

  hence : {A B : Type 0} {r r' : Reader A} {f f' : A → Reader B} → Stays L M r r' → ((x : A) → Stays L M (f x) (f' x))
      → Stays L M (r >>= f) (r' >>= f')
  hence one two = blame.stays_then L M one two

  at_place : {B : Type 0} {f f' : ℕ → Reader B} → ((place : ℕ) → Stays L M (f place) (f' place))
      → Stays L M (here >>= f) (here >>= f')
  at_place two = blame.stays_here L M two

  -- ## Strings, lists and entries
  stays_present : Stays L M (present L.max_string_bytes) (present M.max_string_bytes)
  stays_present = at_place λ first. hence (blame.stays_string L M wide) λ t. same (there first t)

  stays_strict_constant : Stays L M (strict_constant L.max_string_bytes) (strict_constant M.max_string_bytes)
  stays_strict_constant = at_place λ place. hence (same (field 1)) λ tag.
      blame.stays_pick L M (eqb tag 0) (same (give _))
      (blame.stays_pick L M (eqb tag 1) (same (give _))
      (blame.stays_pick L M (eqb tag 17) (same (give _))
      (blame.stays_pick L M (eqb tag 3) (hence (same (field 8)) λ n. same (give _))
      (blame.stays_pick L M (eqb tag 19) (hence (same (field 8)) λ n. same (give _))
      (blame.stays_pick L M (eqb tag 4) (hence stays_present λ t. same (give _))
      (blame.stays_pick L M (eqb tag 20) (hence stays_present λ t. same (give _)) (same (refuse (q.ConstantTag place)))))))))

  stays_strict_local : Stays L M (strict_local L.max_string_bytes) (strict_local M.max_string_bytes)
  stays_strict_local =
      hence (blame.stays_always L M wide (63 ∷ [])) λ name. hence (same int) λ startpc. hence (same int) λ endpc. same (give _)

  stays_strict_counted : {A : Type 0} {r r' : Reader A} → Stays L M r r' → Stays L M (strict_counted r) (strict_counted r')
  stays_strict_counted one =
      hence (same int) λ n. at_place λ place. hence (blame.stays_many L M n one) λ items. same (give _)

  stays_strict_counted_up_to : {A : Type 0} {r r' : Reader A} (m m' : ℕ) (over : ℕ → Refusal) → m ≤ m'
      → ((first : ℕ) → SameNamed L M (over first) → m ≡ m') → Stays L M r r'
      → Stays L M (strict_counted_up_to m over r) (strict_counted_up_to m' over r')
  stays_strict_counted_up_to m m' over low held one = at_place λ first. hence (same int) λ n. hence (blame.stays_at_most L M n m m' (over first) low (held first)) λ _. at_place λ place. hence (blame.stays_many L M n one) λ items. same (give _)

  -- ## Functions
  stays_strict_body : {r r' : Where → Reader (List Prototype)} → ((w : Where) → Stays L M (r w) (r' w)) → (w : Where)
      → Stays L M (strict_body L r w) (strict_body M r' w)
  unfolding strict_body
  stays_strict_body one w =
      at_place λ start.
      hence (blame.stays_string L M wide) λ spelt.
      hence (same int) λ line_defined.
      hence (same int) λ last_line_defined.
      hence (same (field 1)) λ numparams.
      hence (same (field 1)) λ is_vararg.
      hence (same (field 1)) λ maxstacksize.
      at_place λ first.
      hence (same int) λ size.
      hence (blame.stays_at_most L M size L.max_instructions_per_proto M.max_instructions_per_proto (q.Instructions first) wide.instructions (λ k. k (omega arith) (omega arith))) λ _.
      hence (blame.stays_at_most L M (w.instructions + size) L.max_total_instructions M.max_total_instructions (q.TotalInstructions first) wide.all_instructions (λ k. k (omega arith) (omega arith))) λ _.
      at_place λ instructions_at.
      hence (same (many size (field 4))) λ instructions.
      hence (stays_strict_counted_up_to L.max_constants_per_proto M.max_constants_per_proto q.Constants wide.constants (λ first k. k (omega arith) (omega arith)) stays_strict_constant) λ constants.
      hence (stays_strict_counted_up_to L.max_upvalues_per_proto M.max_upvalues_per_proto q.Upvalues wide.upvalues (λ first k. k (omega arith) (omega arith)) (same upvalue)) λ upvalues.
      at_place λ first.
      hence (same int) λ protos.
      hence (blame.stays_at_most L M protos L.max_total_prototypes M.max_total_prototypes (q.Prototypes first) wide.functions (λ k. k (omega arith) (omega arith))) λ _.
      at_place λ protos-at.
      hence (blame.stays_forest L M wide protos (within w (inherit spelt w.source) (length instructions)) one) λ nested.
      hence (same int) λ line-info-size.
      at_place λ line-info-at.
      hence (same (run line-info-size)) λ line_info_lem.
      hence (same (strict_counted strict_anchor)) λ abs_line_info.
      hence (stays_strict_counted stays_strict_local) λ loc_vars.
      hence (stays_strict_counted (blame.stays_string L M wide)) λ upvalue_names_lem.
      at_place λ end.
      same (give _)

  deeper : (left' : ℕ) (w : Where) → (L.max_nesting_depth ≡ M.max_nesting_depth → ⊥)
      → Stays L M (strict_enter L zero w) (strict_enter M (suc left') w)
  deeper left' w other = record {
    accepts = λ at s x to rest e. never {p = q.NestingDepth at} e;
    refuses = λ at s p e k. absurd (let h : q.NestingDepth at ≡ p = was e in let k' : SameNamed L M (q.NestingDepth at) = subst (SameNamed L M) (sym h) k in other (k' (omega arith) (omega arith)));
  }

  entered : (left left' : ℕ) (w : Where) → Stays L M (strict_function L left w) (strict_function M left' w)
      → Stays L M (strict_enter L (suc left) w) (strict_enter M (suc left') w)
  entered left left' w one =
      at_place λ place.
      hence (blame.stays_at_most L M w.number L.max_total_prototypes M.max_total_prototypes (q.TotalPrototypes place) wide.functions (λ k. k (omega arith) (omega arith))) λ _.
      one

  stays_strict_function : (left left' : ℕ) (w : Where) → left ≤ left'
      → (L.max_nesting_depth ≡ M.max_nesting_depth → left ≡ left')
      → Stays L M (strict_function L left w) (strict_function M left' w)
  unfolding strict_function
  stays_strict_function zero zero w low held =
      stays_strict_body {r = strict_enter L zero} {r' = strict_enter M zero} (λ w. same (strict_enter L zero w)) w
  stays_strict_function zero (suc left') w low held =
      stays_strict_body {r = strict_enter L zero} {r' = strict_enter M (suc left')} (λ w. deeper left' w (λ e. let h = held e in omega arith)) w
  stays_strict_function (suc left) zero w low held = absurd (omega arith)
  stays_strict_function (suc left) (suc left') w low held = stays_strict_body {r = strict_enter L (suc left)} {r' = strict_enter M (suc left')} (λ w. entered left left' w (stays_strict_function left left' w (omega arith) (λ e. let h = held e in omega arith))) w

  -- ## Chunks
  pub strict_blames : Stays L M (strict_main L) (strict_main M)
  strict_blames = hence (same strict_header) λ headed. hence (same (field 1)) λ forgotten. hence (stays_strict_function L.max_nesting_depth M.max_nesting_depth _ wide.nesting (λ e. e)) λ functions. same (give _)
