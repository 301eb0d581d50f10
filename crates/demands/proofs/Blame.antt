-- Which limit is to blame (01, 'Who can cause a refusal'): a refusal with 1 to 12 (or 31 to 33: StrictBlame.antt)
-- stays under all limits that are as high; one with 13 to 20 stays as long as the limit that its number names stays,
-- however much the others are raised. So no reader that names another limit than the one that is passed is ours,
-- though the count be above that one too. One law for each way to make a reader.
--     named_limit n L   the limit that the number n names
--     Raised L M       each limit of M is at least L's
--     Stays L M r r'   what r, under L, accepts, r', under M, accepts alike; what r refuses r' refuses alike, where
--                      the limit that is named is the same in both
--     blames           the reader of a chunk
--     not_misnamed     the wrong reader of Misnamed.antt, which passes the other laws, is not so
-- Assumes nothing.
use mathlib.Core.Path.{◌≡◌, refl, sym, ◌∙◌, ap, subst}
use mathlib.Core.Bool.{Bool, true, false, cond}
use mathlib.Core.List.{List, [], ◌∷◌, ◌++◌}
use Prim.Native.Nat.{ℕ, zero, suc, ◌+◌, ◌≤◌}
use native.Mathlib.Omega.{arith}
use lib.Dec.{leb, eqb}
use lib.ListN.{length}
use borrow.Author.Tests.{leb-true, le-leb}
use Rattle.format.specs.declared.limits.ResourceLimits.{ResourceLimits}
use Rattle.format.specs.declared.refusal.Refusal.{Refusal}
use Rattle.format.specs.declared.refusal.Refusal.TheVariants as q
use Rattle.format.specs.Form.{Bytes}
use Rattle.format.specs.Refusals.{reported}
use Rattle.format.specs.Reading.{Prototype}
use Rattle.format.specs.GrammarChunk.{inherit, Where, after, within}
use Rattle.format.specs.Read.{Read, ok, refused, Reader, next, ◌>>=◌, give, here, refuse, test, at_most, run, many}
use Rattle.format.specs.ReadFields.{field, number, content, string}
use Rattle.format.specs.ReadHeader.{header}
use Rattle.format.specs.ReadChunk.{counted, counted_up_to, always, constant, upvalue, anchor, local, forest, body, function, main}
use Rattle.demands.proofs.Early.{never, was}
use Rattle.demands.proofs.AtOneByte.{enter}
use Rattle.demands.proofs.Misnamed.{misnamed, none}

-- 18 and 20 name one limit
abbrev pub named_limit : ℕ → ResourceLimits → ℕ
named_limit n L =
    cond (eqb n 13) L.max_string_bytes
    (cond (eqb n 14) L.max_instructions_per_proto
    (cond (eqb n 15) L.max_total_instructions
    (cond (eqb n 16) L.max_constants_per_proto
    (cond (eqb n 17) L.max_upvalues_per_proto
    (cond (eqb n 19) L.max_nesting_depth
    L.max_total_prototypes)))))

pub record Raised (L M : ResourceLimits) : Type 0 where
  pub strings : L.max_string_bytes ≤ M.max_string_bytes
  pub instructions : L.max_instructions_per_proto ≤ M.max_instructions_per_proto
  pub all_instructions : L.max_total_instructions ≤ M.max_total_instructions
  pub constants : L.max_constants_per_proto ≤ M.max_constants_per_proto
  pub upvalues : L.max_upvalues_per_proto ≤ M.max_upvalues_per_proto
  pub functions : L.max_total_prototypes ≤ M.max_total_prototypes
  pub nesting : L.max_nesting_depth ≤ M.max_nesting_depth

-- the limit that is named, if one is, is the same
abbrev pub SameNamed : ResourceLimits → ResourceLimits → Refusal → Type 0
SameNamed L M p =
    13 ≤ (reported p).number → (reported p).number ≤ 20 → named_limit (reported p).number L ≡ named_limit (reported p).number M

pub record Stays {A : Type 0} (L M : ResourceLimits) (r r' : Reader A) : Type 0 where
  pub accepts : (at : ℕ) (s : Bytes) (x : A) (to : ℕ) (rest : Bytes) → r at s ≡ ok x to rest → r' at s ≡ ok x to rest
  pub refuses : (at : ℕ) (s : Bytes) (p : Refusal) → r at s ≡ refused p → SameNamed L M p → r' at s ≡ refused p

module _ (L M : ResourceLimits) where
  -- ## Ways to make a reader
  pub same : {A : Type 0} (r : Reader A) → Stays L M r r
  same r = record { accepts = λ at s x to rest e. e; refuses = λ at s p e k. e }

  pub stays_here : {B : Type 0} {f f' : ℕ → Reader B} → ((place : ℕ) → Stays L M (f place) (f' place))
      → Stays L M (here >>= f) (here >>= f')
  stays_here two = record { accepts = λ at s x to rest e. (two at).accepts at s x to rest e; refuses = λ at s p e k. (two at).refuses at s p e k }

  pub stays_then : {A B : Type 0} {r r' : Reader A} {f f' : A → Reader B} → Stays L M r r'
      → ((x : A) → Stays L M (f x) (f' x)) → Stays L M (r >>= f) (r' >>= f')
  stays_then {A} {B} {r} {r'} {f} {f'} one two = record { accepts = λ at s x to rest e. on at s x to rest (r at s) refl e; refuses = λ at s p e k. off at s p k (r at s) refl e }
    where
      on : (at : ℕ) (s : Bytes) (x : B) (to : ℕ) (rest : Bytes) (o : Read A) → r at s ≡ o → next o f ≡ ok x to rest
          → next (r' at s) f' ≡ ok x to rest
      on at s x to rest (ok y mid u) is e =
          ap (λ o. next o f') (one.accepts at s y mid u is) ∙ (two y).accepts mid u x to rest e
      on at s x to rest (refused p) is e = never e

      off : (at : ℕ) (s : Bytes) (p : Refusal) → SameNamed L M p → (o : Read A) → r at s ≡ o → next o f ≡ refused p
          → next (r' at s) f' ≡ refused p
      off at s p k (ok y mid u) is e = ap (λ o. next o f') (one.accepts at s y mid u is) ∙ (two y).refuses mid u p e k
      off at s p k (refused p') is e =
          let h : p' ≡ p = was e in
          ap (λ o. next o f') (one.refuses at s p' is (subst (SameNamed L M) (sym h) k)) ∙ ap refused h

  pub stays_pick : {A : Type 0} {r r' s s' : Reader A} (b : Bool) → Stays L M r r' → Stays L M s s'
      → Stays L M (cond b r s) (cond b r' s')
  stays_pick true one two = one
  stays_pick false one two = two

  -- the limit is as high, and the same where the refusal names it
  pub stays_at_most : (n m m' : ℕ) (p : Refusal) → m ≤ m' → (SameNamed L M p → m ≡ m')
      → Stays L M (at_most n m p) (at_most n m' p)
  stays_at_most n m m' p low held = record { accepts = λ at s x to rest e. on at s x to rest (leb n m) refl e; refuses = λ at s p' e k. off at s p' k (leb n m) refl e }
    where
      on : (at : ℕ) (s : Bytes) (x : Unit {0}) (to : ℕ) (rest : Bytes) (b : Bool) → leb n m ≡ b
          → test b p at s ≡ ok x to rest → at_most n m' p at s ≡ ok x to rest
      on at s x to rest true t e = let h = leb-true n m t in ap (λ b. test b p at s) (le-leb n m' (omega arith)) ∙ e
      on at s x to rest false t e = never e

      off : (at : ℕ) (s : Bytes) (p' : Refusal) → SameNamed L M p' → (b : Bool) → leb n m ≡ b
          → test b p at s ≡ refused p' → at_most n m' p at s ≡ refused p'
      off at s p' k true t e = absurd (let z : ◌≡◌ {A = ℕ} 0 1 = cc in omega arith)
      off at s p' k false t e =
          let h : p ≡ p' = was e in
          let limit : m ≡ m' = held (subst (SameNamed L M) (sym h) k) in
          ap (λ l. test (leb n l) p at s) (sym limit) ∙ ap (λ b. test b p at s) t ∙ e

  pub stays_many : {A : Type 0} {r r' : Reader A} (n : ℕ) → Stays L M r r' → Stays L M (many n r) (many n r')
  stays_many zero one = same (give [])
  stays_many (suc n) one = stays_then one λ x. stays_then (stays_many n one) λ xs. same (give (x ∷ xs))

  module _ (wide : Raised L M) where
    -- ## Strings, lists and entries
    pub stays_string : Stays L M (string L.max_string_bytes) (string M.max_string_bytes)
    stays_string = stays_here λ first. stays_then (same number) λ size. by first size
      where
        by : (first size : ℕ) → Stays L M (content L.max_string_bytes first size) (content M.max_string_bytes first size)
        by first zero = same (give _)
        by first (suc n) = stays_then (stays_at_most n L.max_string_bytes M.max_string_bytes (q.StringBytes first) wide.strings (λ k. k (omega arith) (omega arith))) λ _. stays_here λ place. stays_then (same (run n)) λ bytes. same (give _)

    pub stays_always : (instead : Bytes) → Stays L M (always L.max_string_bytes instead) (always M.max_string_bytes instead)
    stays_always instead = stays_then stays_string λ t. stays_here λ place. same (give _)

    stays_constant : Stays L M (constant L.max_string_bytes) (constant M.max_string_bytes)
    stays_constant = stays_here λ place. stays_then (same (field 1)) λ tag.
        stays_pick (eqb tag 0) (same (give _))
        (stays_pick (eqb tag 1) (same (give _))
        (stays_pick (eqb tag 17) (same (give _))
        (stays_pick (eqb tag 3) (stays_then (same (field 8)) λ n. same (give _))
        (stays_pick (eqb tag 19) (stays_then (same (field 8)) λ n. same (give _))
        (stays_pick (eqb tag 4) (stays_then (stays_always []) λ t. same (give _))
        (stays_pick (eqb tag 20) (stays_then (stays_always []) λ t. same (give _)) (same (refuse (q.ConstantTag place)))))))))

    pub stays_local : Stays L M (local L.max_string_bytes) (local M.max_string_bytes)
    stays_local =
        stays_then (stays_always (63 ∷ [])) λ name. stays_then (same number) λ startpc. stays_then (same number) λ endpc. same (give _)

    stays_counted : {A : Type 0} {r r' : Reader A} → Stays L M r r' → Stays L M (counted r) (counted r')
    stays_counted one =
        stays_then (same number) λ n. stays_here λ place. stays_then (stays_many n one) λ items. same (give _)

    stays_counted_up_to : {A : Type 0} {r r' : Reader A} (m m' : ℕ) (over : ℕ → Refusal) → m ≤ m'
        → ((first : ℕ) → SameNamed L M (over first) → m ≡ m') → Stays L M r r'
        → Stays L M (counted_up_to m over r) (counted_up_to m' over r')
    stays_counted_up_to m m' over low held one = stays_here λ first. stays_then (same number) λ n. stays_then (stays_at_most n m m' (over first) low (held first)) λ _. stays_here λ place. stays_then (stays_many n one) λ items. same (give _)

    -- ## Functions
    pub stays_forest : (n : ℕ) {r r' : Where → Reader (List Prototype)} (w : Where)
        → ((w : Where) → Stays L M (r w) (r' w)) → Stays L M (forest n r w) (forest n r' w)
    stays_forest zero w one = same (give [])
    stays_forest (suc n) w one =
        stays_then (one w) λ ps. stays_then (stays_forest n (after ps w) one) λ more. same (give (ps ++ more))

    stays_body : {r r' : Where → Reader (List Prototype)} → ((w : Where) → Stays L M (r w) (r' w)) → (w : Where)
        → Stays L M (body L r w) (body M r' w)
    unfolding body
    stays_body one w =
        stays_here λ start.
        stays_then stays_string λ spelt.
        stays_then (same number) λ line_defined.
        stays_then (same number) λ last_line_defined.
        stays_then (same (field 1)) λ numparams.
        stays_then (same (field 1)) λ is_vararg.
        stays_then (same (field 1)) λ maxstacksize.
        stays_here λ first.
        stays_then (same number) λ size.
        stays_then (stays_at_most size L.max_instructions_per_proto M.max_instructions_per_proto (q.Instructions first) wide.instructions (λ k. k (omega arith) (omega arith))) λ _.
        stays_then (stays_at_most (w.instructions + size) L.max_total_instructions M.max_total_instructions (q.TotalInstructions first) wide.all_instructions (λ k. k (omega arith) (omega arith))) λ _.
        stays_here λ instructions_at.
        stays_then (same (many size (field 4))) λ instructions.
        stays_then (stays_counted_up_to L.max_constants_per_proto M.max_constants_per_proto q.Constants wide.constants (λ first k. k (omega arith) (omega arith)) stays_constant) λ constants.
        stays_then (stays_counted_up_to L.max_upvalues_per_proto M.max_upvalues_per_proto q.Upvalues wide.upvalues (λ first k. k (omega arith) (omega arith)) (same upvalue)) λ upvalues.
        stays_here λ first.
        stays_then (same number) λ protos.
        stays_then (stays_at_most protos L.max_total_prototypes M.max_total_prototypes (q.Prototypes first) wide.functions (λ k. k (omega arith) (omega arith))) λ _.
        stays_here λ protos-at.
        stays_then (stays_forest protos (within w (inherit spelt w.source) (length instructions)) one) λ nested.
        stays_then (same number) λ line-info-size.
        stays_here λ line-info-at.
        stays_then (same (run line-info-size)) λ line_info_lem.
        stays_then (same (counted anchor)) λ abs_line_info.
        stays_then (stays_counted stays_local) λ loc_vars.
        stays_then (stays_counted stays_string) λ upvalue_names_lem.
        stays_here λ end.
        same (give _)

    -- where a nested function begins (AtOneByte.antt, `enter`): one level more is left, and the limit of nesting is
    -- another
    deeper : (left' : ℕ) (w : Where) → (L.max_nesting_depth ≡ M.max_nesting_depth → ⊥)
        → Stays L M (enter L zero w) (enter M (suc left') w)
    deeper left' w other = record {
      accepts = λ at s x to rest e. never {p = q.NestingDepth at} e;
      refuses = λ at s p e k. absurd (let h : q.NestingDepth at ≡ p = was e in let k' : SameNamed L M (q.NestingDepth at) = subst (SameNamed L M) (sym h) k in other (k' (omega arith) (omega arith)));
    }

    entered : (left left' : ℕ) (w : Where) → Stays L M (function L left w) (function M left' w)
        → Stays L M (enter L (suc left) w) (enter M (suc left') w)
    entered left left' w one =
        stays_here λ place.
        stays_then (stays_at_most w.number L.max_total_prototypes M.max_total_prototypes (q.TotalPrototypes place) wide.functions (λ k. k (omega arith) (omega arith))) λ _.
        one

    stays_function : (left left' : ℕ) (w : Where) → left ≤ left'
        → (L.max_nesting_depth ≡ M.max_nesting_depth → left ≡ left')
        → Stays L M (function L left w) (function M left' w)
    unfolding function
    stays_function zero zero w low held =
        stays_body {r = enter L zero} {r' = enter M zero} (λ w. same (enter L zero w)) w
    stays_function zero (suc left') w low held =
        stays_body {r = enter L zero} {r' = enter M (suc left')} (λ w. deeper left' w (λ e. let h = held e in omega arith)) w
    stays_function (suc left) zero w low held = absurd (omega arith)
    stays_function (suc left) (suc left') w low held = stays_body {r = enter L (suc left)} {r' = enter M (suc left')} (λ w. entered left left' w (stays_function left left' w (omega arith) (λ e. let h = held e in omega arith))) w

    -- ## Chunks
    pub blames : Stays L M (main L) (main M)
    blames = stays_then (same header) λ headed. stays_then (same (field 1)) λ forgotten. stays_then (stays_function L.max_nesting_depth M.max_nesting_depth _ wide.nesting (λ e. e)) λ functions. same (give _)

-- ## The wrong reader
-- the limit of upvalues is raised, that of instructions, which it names, is not
abbrev more : ResourceLimits
more = record {
  max_input_bytes = 9;
  max_nesting_depth = 9;
  max_total_prototypes = 9;
  max_instructions_per_proto = 0;
  max_total_instructions = 9;
  max_constants_per_proto = 9;
  max_upvalues_per_proto = 1;
  max_string_bytes = 9;
  max_diagnostics = 9;
}

pub not_misnamed : Stays none more (misnamed none) (misnamed more) → ⊥
not_misnamed stays = let e : ◌≡◌ {A = Read ℕ} (ok 1 1 []) (refused (q.Instructions 0)) = stays.refuses 0 (0x81 ∷ []) (q.Instructions 0) refl (λ h h'. refl) in let z : ◌≡◌ {A = ℕ} 0 1 = cc in omega arith
