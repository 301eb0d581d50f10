-- Who can cause a refusal (01): the file alone 1 to 12, the file with the limits 13 to 20. A file that some limits let through is refused under others by 13 to 20 alone; so what is refused with 1 to 12 is
-- refused under all limits. One law for each way to make a reader.
--     Limited r r'         where r', a reader under other limits, accepts, r accepts the same or refuses by 13 to 20
--     by_the_limits        the reader of a chunk
--     by_the_file          of what every call begins with
--     not_vague            a reader that calls a file cut short where a limit is met (01's trap in another form: it never reports that limit) is not so
-- Assumes nothing.
use mathlib.Core.Path.{◌≡◌, refl, sym, ◌∙◌, ap, subst}
use mathlib.Core.Bool.{Bool, true, false, cond}
use mathlib.Core.List.{List, [], ◌∷◌, ◌++◌}
use Prim.Native.Nat.{ℕ, zero, suc, ◌+◌, ◌≤◌}
use native.Mathlib.Omega.{arith}
use lib.Dec.{leb, eqb}
use lib.ListN.{length}
use borrow.Author.Tests.{leb-true}
use Rattle.format.specs.declared.limits.ResourceLimits.{ResourceLimits}
use Rattle.format.specs.declared.refusal.Refusal.{Refusal}
use Rattle.format.specs.declared.refusal.Refusal.TheVariants as q
use Rattle.format.specs.Form.{Bytes}
use Rattle.format.specs.Refusals.{reported}
use Rattle.format.specs.Limits.{within_ceilings}
use Rattle.format.specs.Reading.{Reading, Prototype}
use Rattle.format.specs.GrammarChunk.{inherit, Where, after, within, Loaded}
use Rattle.format.specs.Read.{Read, ok, refused, Reader, next, ◌>>=◌, ◌>>◌, give, here, refuse, test, at_most, run, many}
use Rattle.format.specs.ReadFields.{field, number, content, string}
use Rattle.format.specs.ReadHeader.{header}
use Rattle.format.specs.ReadChunk.{counted, counted_up_to, always, constant, upvalue, anchor, local, forest, body, function, main, shown, refusal, outcome, read}
use Rattle.demands.proofs.Early.{never}
use Rattle.demands.proofs.AtOneByte.{enter}

-- 13 to 20
pub record ByLimit (p : Refusal) : Type 0 where
  pub from : 13 ≤ (reported p).number
  pub to : (reported p).number ≤ 20

pub limit : (p : Refusal) → leb 13 (reported p).number ≡ true → leb (reported p).number 20 ≡ true → ByLimit p
limit p f g = record { from = leb-true 13 (reported p).number f; to = leb-true (reported p).number 20 g }

-- the same, or a limit
abbrev pub Agrees : {A : Type 0} → A → ℕ → Bytes → Read A → Type 0
Agrees x to rest (ok y t r) = ok y t r ≡ ok x to rest
Agrees x to rest (refused p) = ByLimit p

pub record Limited {A : Type 0} (r r' : Reader A) : Type 0 where
  pub agrees : (at : ℕ) (s : Bytes) (x : A) (to : ℕ) (rest : Bytes) → r' at s ≡ ok x to rest → Agrees x to rest (r at s)

-- ## Ways to make a reader
pub same : {A : Type 0} (r : Reader A) → Limited r r
same r = record { agrees = λ at s x to rest e. rw e refl }

pub limited-give : {A : Type 0} (x : A) → Limited (give x) (give x)
limited-give x = same (give x)

limited-refuse : {A : Type 0} {r' : Reader A} (p : Refusal) → ByLimit p → Limited (refuse p) r'
limited-refuse p is = record { agrees = λ at s x to rest e. is }

pub limited-here : {B : Type 0} {f f' : ℕ → Reader B} → ((place : ℕ) → Limited (f place) (f' place)) → Limited (here >>= f) (here >>= f')
limited-here two = record { agrees = λ at s x to rest e. (two at).agrees at s x to rest e }

pub limited_then : {A B : Type 0} {r r' : Reader A} {f f' : A → Reader B} → Limited r r' → ((x : A) → Limited (f x) (f' x)) → Limited (r >>= f) (r' >>= f')
limited_then {A} {B} {r} {r'} {f} {f'} one two = record { agrees = λ at s x to rest e. go at s x to rest (r' at s) refl e }
  where
    on : (y : A) (mid : ℕ) (u : Bytes) (x : B) (to : ℕ) (rest : Bytes) → f' y mid u ≡ ok x to rest → (o : Read A) → Agrees y mid u o → Agrees x to rest (next o f)
    on y mid u x to rest e (ok z t v) k = subst (λ (o : Read A). Agrees x to rest (next o f)) (sym k) ((two y).agrees mid u x to rest e)
    on y mid u x to rest e (refused p) k = k

    go : (at : ℕ) (s : Bytes) (x : B) (to : ℕ) (rest : Bytes) (o : Read A) → r' at s ≡ o → next o f' ≡ ok x to rest → Agrees x to rest (next (r at s) f)
    go at s x to rest (ok y mid u) is e = on y mid u x to rest e (r at s) (one.agrees at s y mid u is)
    go at s x to rest (refused p) is e = never e

pub limited_pick : {A : Type 0} {r r' s s' : Reader A} (b : Bool) → Limited r r' → Limited s s' → Limited (cond b r s) (cond b r' s')
limited_pick true one two = one
limited_pick false one two = two

limited-at_most : (n m m' : ℕ) (p : Refusal) → ByLimit p → Limited (at_most n m p) (at_most n m' p)
limited-at_most n m m' p is = record { agrees = λ at s x to rest e. go at s x to rest (leb n m') e (leb n m) }
  where
    go : (at : ℕ) (s : Bytes) (x : Unit {0}) (to : ℕ) (rest : Bytes) (b' : Bool) → test b' p at s ≡ ok x to rest → (b : Bool) → Agrees x to rest (test b p at s)
    go at s x to rest true e true = e
    go at s x to rest true e false = is
    go at s x to rest false e b = never e

limited-many : {A : Type 0} {r r' : Reader A} (n : ℕ) → Limited r r' → Limited (many n r) (many n r')
limited-many zero one = limited-give []
limited-many (suc n) one = limited_then one λ x. limited_then (limited-many n one) λ xs. limited-give _

-- ## Strings, lists and entries
limited-string : (m m' : ℕ) → Limited (string m) (string m')
limited-string m m' = limited-here λ first. limited_then (same number) λ size. by first size
  where
    by : (first size : ℕ) → Limited (content m first size) (content m' first size)
    by first zero = limited-give _
    by first (suc n) = limited_then (limited-at_most n m m' (q.StringBytes first) (limit (q.StringBytes first) refl refl)) λ _. limited-here λ place. limited_then (same (run n)) λ bytes. limited-give _

limited-always : (m m' : ℕ) (instead : Bytes) → Limited (always m instead) (always m' instead)
limited-always m m' instead = limited_then (limited-string m m') λ t. limited-here λ place. limited-give _

limited-constant : (m m' : ℕ) → Limited (constant m) (constant m')
limited-constant m m' = limited-here λ place. limited_then (same (field 1)) λ tag.
    limited_pick (eqb tag 0) (limited-give _)
    (limited_pick (eqb tag 1) (limited-give _)
    (limited_pick (eqb tag 17) (limited-give _)
    (limited_pick (eqb tag 3) (limited_then (same (field 8)) λ n. limited-give _)
    (limited_pick (eqb tag 19) (limited_then (same (field 8)) λ n. limited-give _)
    (limited_pick (eqb tag 4) (limited_then (limited-always m m' []) λ t. limited-give _)
    (limited_pick (eqb tag 20) (limited_then (limited-always m m' []) λ t. limited-give _) (same (refuse (q.ConstantTag place)))))))))

limited-local : (m m' : ℕ) → Limited (local m) (local m')
limited-local m m' = limited_then (limited-always m m' (63 ∷ [])) λ name. limited_then (same number) λ startpc. limited_then (same number) λ endpc. limited-give _

limited-counted : {A : Type 0} {r r' : Reader A} → Limited r r' → Limited (counted r) (counted r')
limited-counted one = limited_then (same number) λ n. limited-here λ place. limited_then (limited-many n one) λ items. limited-give _

limited-counted_up_to : {A : Type 0} {r r' : Reader A} (m m' : ℕ) (over : ℕ → Refusal) → ((first : ℕ) → ByLimit (over first)) → Limited r r' → Limited (counted_up_to m over r) (counted_up_to m' over r')
limited-counted_up_to m m' over is one = limited-here λ first. limited_then (same number) λ n. limited_then (limited-at_most n m m' (over first) (is first)) λ _. limited-here λ place. limited_then (limited-many n one) λ items. limited-give _

-- ## Functions, under the limits L and M
limited-forest : (n : ℕ) {r r' : Where → Reader (List Prototype)} (w : Where) → ((w : Where) → Limited (r w) (r' w)) → Limited (forest n r w) (forest n r' w)
limited-forest zero w one = limited-give []
limited-forest (suc n) w one = limited_then (one w) λ ps. limited_then (limited-forest n (after ps w) one) λ more. limited-give (ps ++ more)

module _ (L M : ResourceLimits) where
  limited-body : {r r' : Where → Reader (List Prototype)} → ((w : Where) → Limited (r w) (r' w)) → (w : Where) → Limited (body L r w) (body M r' w)
  unfolding body
  limited-body one w =
      limited-here λ start.
      limited_then (limited-string L.max_string_bytes M.max_string_bytes) λ spelt.
      limited_then (same number) λ line_defined.
      limited_then (same number) λ last_line_defined.
      limited_then (same (field 1)) λ numparams.
      limited_then (same (field 1)) λ is_vararg.
      limited_then (same (field 1)) λ maxstacksize.
      limited-here λ first.
      limited_then (same number) λ size.
      limited_then (limited-at_most size L.max_instructions_per_proto M.max_instructions_per_proto (q.Instructions first) (limit (q.Instructions first) refl refl)) λ _.
      limited_then (limited-at_most (w.instructions + size) L.max_total_instructions M.max_total_instructions (q.TotalInstructions first) (limit (q.TotalInstructions first) refl refl)) λ _.
      limited-here λ instructions_at.
      limited_then (same (many size (field 4))) λ instructions.
      limited_then (limited-counted_up_to L.max_constants_per_proto M.max_constants_per_proto q.Constants (λ first. limit (q.Constants first) refl refl) (limited-constant L.max_string_bytes M.max_string_bytes)) λ constants.
      limited_then (limited-counted_up_to L.max_upvalues_per_proto M.max_upvalues_per_proto q.Upvalues (λ first. limit (q.Upvalues first) refl refl) (same upvalue)) λ upvalues.
      limited-here λ first.
      limited_then (same number) λ protos.
      limited_then (limited-at_most protos L.max_total_prototypes M.max_total_prototypes (q.Prototypes first) (limit (q.Prototypes first) refl refl)) λ _.
      limited-here λ protos-at.
      limited_then (limited-forest protos (within w (inherit spelt w.source) (length instructions)) one) λ nested.
      limited_then (same number) λ line-info-size.
      limited-here λ line-info-at.
      limited_then (same (run line-info-size)) λ line_info_lem.
      limited_then (same (counted anchor)) λ abs_line_info.
      limited_then (limited-counted (limited-local L.max_string_bytes M.max_string_bytes)) λ loc_vars.
      limited_then (limited-counted (limited-string L.max_string_bytes M.max_string_bytes)) λ upvalue_names_lem.
      limited-here λ end.
      limited-give _

  -- where a nested function begins (AtOneByte.antt, `enter`): 19, 20
  too_deep_lem : (left' : ℕ) (w : Where) → Limited (enter L zero w) (enter M left' w)
  too_deep_lem left' w = record { agrees = λ at s x to rest e. limit (q.NestingDepth at) refl refl }

  not_there : (left : ℕ) (w : Where) → Limited (enter L (suc left) w) (enter M zero w)
  not_there left w = record { agrees = λ at s x to rest e. never {p = q.NestingDepth at} e }

  entered : (left left' : ℕ) (w : Where) → Limited (function L left w) (function M left' w) → Limited (enter L (suc left) w) (enter M (suc left') w)
  entered left left' w one =
      limited-here λ place.
      limited_then (limited-at_most w.number L.max_total_prototypes M.max_total_prototypes (q.TotalPrototypes place) (limit (q.TotalPrototypes place) refl refl)) λ _.
      one

  limited-function : (left left' : ℕ) (w : Where) → Limited (function L left w) (function M left' w)
  unfolding function
  limited-function zero zero w = limited-body {r = enter L zero} {r' = enter M zero} (too_deep_lem zero) w
  limited-function zero (suc left') w = limited-body {r = enter L zero} {r' = enter M (suc left')} (too_deep_lem (suc left')) w
  limited-function (suc left) zero w = limited-body {r = enter L (suc left)} {r' = enter M zero} (not_there left) w
  limited-function (suc left) (suc left') w = limited-body {r = enter L (suc left)} {r' = enter M (suc left')} (λ w. entered left left' w (limited-function left left' w)) w

  -- ## Chunks
  limited-main : Limited (main L) (main M)
  limited-main = limited_then (same header) λ headed. limited_then (same (field 1)) λ forgotten. limited_then (limited-function L.max_nesting_depth M.max_nesting_depth _) λ functions. limited-give _

  pub by_the_limits : (s : Bytes) (p : Refusal) (m : Loaded) (to : ℕ) (rest : Bytes) → main M 0 s ≡ ok m to rest → main L 0 s ≡ refused p → ByLimit p
  by_the_limits s p m to rest read refused_so = rw refused_so at (limited-main.agrees 0 s m to rest read)

  -- what is refused with 1 to 12 is refused under all limits
  pub by_the_file : (s : Bytes) (p : Refusal) → (reported p).number ≤ 12 → read L s ≡ refusal p → (r : Reading) → read M s ≡ shown r → ⊥
  unfolding read
  by_the_file s p few refused_so r = accepts (within_ceilings M) (leb (length s) M.max_input_bytes) (main M 0 s) refl
    where
      refuses : (within short : Bool) (o : Read Loaded) → main L 0 s ≡ o → cond within (cond short (outcome L o) (refusal q.InputBytes)) (refusal q.LimitAboveCeiling) ≡ refusal p → main L 0 s ≡ refused p
      refuses true true (ok m to rest) is e = absurd (let z : ◌≡◌ {A = ℕ} 0 1 = cc in omega arith)
      refuses true true (refused p') is e = let k : p' ≡ p = cc in is ∙ ap refused k
      refuses true false o is e = let k : q.InputBytes ≡ p = cc in let n : 22 ≡ (reported p).number = ap (λ p. (reported p).number) k in absurd (omega arith)
      refuses false short o is e = let k : q.LimitAboveCeiling ≡ p = cc in let n : 21 ≡ (reported p).number = ap (λ p. (reported p).number) k in absurd (omega arith)

      accepts : (within short : Bool) (o : Read Loaded) → main M 0 s ≡ o → cond within (cond short (outcome M o) (refusal q.InputBytes)) (refusal q.LimitAboveCeiling) ≡ shown r → ⊥
      accepts true true (ok m to rest) is e =
          let k = by_the_limits s p m to rest is (refuses (within_ceilings L) (leb (length s) L.max_input_bytes) (main L 0 s) refl refused_so) in
          let from = k.from in
          omega arith
      accepts true true (refused p') is e = let z : ◌≡◌ {A = ℕ} 0 1 = cc in omega arith
      accepts true false o is e = let z : ◌≡◌ {A = ℕ} 0 1 = cc in omega arith
      accepts false short o is e = let z : ◌≡◌ {A = ℕ} 0 1 = cc in omega arith

-- ## A wrong reader
-- a number above the limit is called cut short, behind it: it never reports the limit
abbrev pub vague : ℕ → Reader ℕ
vague m = do
  n ← number
  place ← here
  at_most n m (q.Truncated place)
  give n

pub not_vague : Limited (vague 0) (vague 1) → ⊥
not_vague limited = let l : ByLimit (q.Truncated 1) = limited.agrees 0 (0x81 ∷ []) 1 1 [] refl in let from = l.from in omega arith
