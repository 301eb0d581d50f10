-- A fault of the file is not named as a limit's (Fault.antt), of the stricter reading (02, item 7): what it refuses
-- with 13 to 20 has a front that is refused so already and that, under any limits that are as high, is never
-- refused for what stands in it (3 to 12, 31 to 33).
--     strict_limits_only   its reader of a chunk
-- Assumes nothing.
use mathlib.Core.Path.{◌≡◌, refl, sym, ◌∙◌, subst}
use mathlib.Core.Bool.{Bool, true, false}
use mathlib.Core.List.{List, [], ◌∷◌}
use mathlib.Core.Option.{some}
use Prim.Native.Nat.{ℕ, zero, suc, ◌+◌, ◌-◌, ◌^◌, ◌≤◌}
use native.Mathlib.Omega.{arith}
use lib.Dec.{leb, ltb, eqb}
use lib.ListN.{length}
use Rattle.format.specs.declared.limits.ResourceLimits.{ResourceLimits}
use Rattle.format.specs.declared.refusal.Refusal.{Refusal}
use Rattle.format.specs.declared.refusal.Refusal.TheVariants as q
use Rattle.format.specs.Form.{Bytes, Form}
use Rattle.format.specs.GrammarFields.{LuaString}
use Rattle.format.specs.Reading.{Prototype}
use Rattle.format.specs.GrammarChunk.{inherit, Where, within}
use Rattle.format.specs.Read.{Read, ok, refused, Reader, next, ◌>>=◌, ◌>>◌, give, here, refuse, test, at_most, run}
use Rattle.format.specs.ReadFields.{number, content}
use Rattle.format_strict.specs.ReadStrict.{int, strict_counted, strict_counted_up_to, there, present, strict_constant, strict_anchor, strict_local, strict_body, strict_function, strict_header, strict_main}
use Rattle.format.proofs.Exact.{Exact, exact_place, exact_then, exact_at_most, exact_run, exact_many}
use Rattle.format.proofs.ExactFields.{exact_field, exact_number, exact_string}
use Rattle.format.proofs.ExactChunk.{exact_always, exact_upvalue, exact_forest, exact_refuse}
use Rattle.format_strict.proofs.ExactStrict.{exact_int, exact_strict_counted, exact_strict_counted_up_to, exact_present, exact_strict_constant, exact_strict_anchor, exact_strict_local, exact_strict_function, exact_strict_header}
use Rattle.demands.proofs.Early.{never}
use Rattle.demands.proofs.Blame.{Raised}
use Rattle.demands.proofs.StrictBlame.{strict_enter}
use Rattle.demands.proofs.Fault.{
  limited,
  Mild,
  Cures,
  Plain,
  plain_give,
  plain_refuse,
  plain_here,
  plain_then,
  plain_test,
  plain_run,
  plain_field,
  plain_number,
  plain_many,
  plain_expect,
  plain_before,
  plain_behind,
  plain_upvalue,
  Lacking,
  Bare,
  bare_stops,
  lacking_here,
  lacking_then,
  lacking_number,
  lacking_byte,
  lacking_word,
  lacking_string,
  bare-give,
  bare-here,
  bare_then,
  bare-test,
  bare-run,
  bare-many,
  bare-forest,
  cures_plain,
  cures_here,
  cures_then,
  cures_plainly,
  cures_pick,
  cures_at_most,
  cures_many,
  cures_string,
  cures_always,
  cures_forest,
}

-- ## What meets no limit
pub plain_int : Plain int
plain_int =
    plain_here λ first. plain_then plain_number λ n. plain_then (plain_test (ltb n (2 ^ 31 - 128)) (q.IntOverflow first) refl) λ _. plain_give n

plain_strict_anchor : Plain strict_anchor
plain_strict_anchor = plain_then plain_int λ pc. plain_then plain_int λ line. plain_give _

plain_strict_counted : {A : Type 0} {r : Reader A} → Plain r → Plain (strict_counted r)
plain_strict_counted one =
    plain_then plain_int λ n. plain_here λ place. plain_then (plain_many n one) λ items. plain_give _

plain_strict_header : Plain strict_header
plain_strict_header =
    plain_then plain_before λ _. plain_then (plain_expect (0 ∷ []) q.Format λ place. refl) λ _. plain_then plain_behind λ _. plain_give _

-- ## No bytes at all
pub lacking_int : Lacking int
lacking_int = lacking_here λ first. lacking_then lacking_number _

pub lacking_present : (limit : ℕ) → Lacking (present limit)
lacking_present limit = lacking_here λ first. lacking_then (lacking_string limit) _

pub lacking_strict_constant : (limit : ℕ) → Lacking (strict_constant limit)
lacking_strict_constant limit = lacking_here λ place. lacking_then lacking_byte _

pub lacking_strict_local : (limit : ℕ) → Lacking (strict_local limit)
lacking_strict_local limit = lacking_then (lacking_then (lacking_string limit) _) _

module _ (M : ResourceLimits) where
  lacking_strict_body : (r : Where → Reader (List Prototype)) (w : Where) → Lacking (strict_body M r w)
  unfolding strict_body
  lacking_strict_body r w = lacking_here λ start. lacking_then (lacking_string M.max_string_bytes) _

  pub lacking_strict_function : (left : ℕ) (w : Where) → Lacking (strict_function M left w)
  unfolding strict_function
  lacking_strict_function zero w = lacking_strict_body _ w
  lacking_strict_function (suc left) w = lacking_strict_body _ w

  pub bare_strict_enter : (left : ℕ) (w : Where) → Bare (strict_enter M left w)
  bare_strict_enter zero w = record { at_none = λ at. refl }
  bare_strict_enter (suc left) w = bare-here λ place. bare_then (bare-test (leb w.number M.max_total_prototypes) (q.TotalPrototypes place) refl) λ _. bare_stops (lacking_strict_function left w)

-- ## A string that is there
-- behind its size
abbrev pub filled : ℕ → ℕ → ℕ → Reader LuaString
filled limit first zero = refuse (q.NullString first)
filled limit first (suc n) = do
  at_most n limit (q.StringBytes first)
  place ← here
  bytes ← run n
  give (record { place = place; bytes = bytes })

abbrev pub present_by : ℕ → Reader LuaString
present_by limit = do
  first ← here
  size ← number
  filled limit first size

pub present_by_lem : (limit at : ℕ) (s : Bytes) → present limit at s ≡ present_by limit at s
present_by_lem limit at s = by (number at s)
  where
    inner : (place to : ℕ) (o : Read Bytes) → next (next o (λ bytes. give (some (record { place = place; bytes = bytes })))) (there at) ≡ next o (λ bytes. give (record { place = place; bytes = bytes }))
    inner place to (ok b mid u) = refl
    inner place to (refused p) = refl

    held : (n to : ℕ) (u : Bytes) (b : Bool) → next (next (test b (q.StringBytes at) to u) (λ _. here >>= λ place. run n >>= λ bytes. give (some (record { place = place; bytes = bytes })))) (there at) ≡ next (test b (q.StringBytes at) to u) (λ _. here >>= λ place. run n >>= λ bytes. give (record { place = place; bytes = bytes }))
    held n to u true = inner to to (run n to u)
    held n to u false = refl

    sized : (size to : ℕ) (u : Bytes) → next (content limit at size to u) (there at) ≡ filled limit at size to u
    sized zero to u = refl
    sized (suc n) to u = held n to u (leb n limit)

    by : (o : Read ℕ) → next (next o (content limit at)) (there at) ≡ next o (filled limit at)
    by (ok size to u) = sized size to u
    by (refused p) = refl

alike : {A : Type 0} {r r' x x' : Reader A} → ((at : ℕ) (s : Bytes) → x at s ≡ r at s)
    → ((at : ℕ) (s : Bytes) → x' at s ≡ r' at s) → Cures r r' → Cures x x'
alike is is' one = record {
  accepts = λ at s y to rest e. is' at s ∙ one.accepts at s y to rest (sym (is at s) ∙ e);
  cured = λ at s p e h. (let c = one.cured at s p (sym (is at s) ∙ e) h in record { front = c.front; rest = c.rest; whole = c.whole; same = is at c.front ∙ c.same; mild = subst (λ (o : Read _). Mild o) (sym (is' at c.front)) c.mild });
}

module _ (L M : ResourceLimits) (wide : Raised L M) where
  abbrev l : ℕ
  l = L.max_string_bytes

  abbrev m : ℕ
  m = M.max_string_bytes

  -- ## Strings, lists and entries
  cures_present : Cures (present l) (present m)
  cures_present =
      alike (present_by_lem l) (present_by_lem m) (cures_here λ first. cures_plainly exact_number plain_number λ size. by first size)
    where
      by : (first size : ℕ) → Cures (filled l first size) (filled m first size)
      by first zero = cures_plain (plain_refuse (q.NullString first) refl)
      by first (suc n) =
          cures_then (exact_at_most n l (q.StringBytes first)) (cures_at_most n l m (q.StringBytes first) wide.strings refl)
          (λ _. cures_plain (plain_here λ place. plain_then (plain_run n) λ bytes. plain_give _)) (λ _. bare-here λ place. bare_then (bare-run n) λ bytes. bare-give _)

  cures_strict_constant : Cures (strict_constant l) (strict_constant m)
  cures_strict_constant = cures_here λ place. cures_plainly (exact_field 1) (plain_field 1) λ tag.
      cures_pick (eqb tag 0) (cures_plain (plain_give _))
      (cures_pick (eqb tag 1) (cures_plain (plain_give _))
      (cures_pick (eqb tag 17) (cures_plain (plain_give _))
      (cures_pick (eqb tag 3) (cures_plain (plain_then (plain_field 8) λ n. plain_give _))
      (cures_pick (eqb tag 19) (cures_plain (plain_then (plain_field 8) λ n. plain_give _))
      (cures_pick (eqb tag 4) (cures_then (exact_present l) cures_present (λ t. cures_plain (plain_give _)) (λ t. bare-give _))
      (cures_pick (eqb tag 20) (cures_then (exact_present l) cures_present (λ t. cures_plain (plain_give _)) (λ t. bare-give _)) (cures_plain (plain_refuse (q.ConstantTag place) refl))))))))

  cures_strict_local : Cures (strict_local l) (strict_local m)
  cures_strict_local = cures_then (exact_always l (63 ∷ [])) (cures_always L M wide (63 ∷ [])) (λ name. cures_plain (plain_then plain_int λ startpc. plain_then plain_int λ endpc. plain_give _)) (λ name. bare_stops (lacking_then lacking_int _))

  cures_strict_counted : {A : Type 0} {r r' : Reader A} {F : Form A} → Exact r F → Cures r r' → Lacking r'
      → Cures (strict_counted r) (strict_counted r')
  cures_strict_counted exact one lacks = cures_plainly exact_int plain_int λ n. cures_here λ place. cures_then (exact_many n exact) (cures_many n exact one lacks) (λ items. cures_plain (plain_give _)) (λ items. bare-give _)

  cures_strict_counted_up_to : {A : Type 0} {r r' : Reader A} {F : Form A} (low high : ℕ) (over : ℕ → Refusal)
      → low ≤ high → ((first : ℕ) → limited (over first) ≡ true) → Exact r F → Cures r r' → Lacking r'
      → Cures (strict_counted_up_to low over r) (strict_counted_up_to high over r')
  cures_strict_counted_up_to low high over le h exact one lacks =
      cures_here λ first. cures_plainly exact_int plain_int λ n.
      cures_then (exact_at_most n low (over first)) (cures_at_most n low high (over first) le (h first))
      (λ _. cures_here λ place. cures_then (exact_many n exact) (cures_many n exact one lacks) (λ items. cures_plain (plain_give _)) (λ items. bare-give _))
      (λ _. bare-here λ place. bare_then (bare-many n lacks) λ items. bare-give _)

  -- ## Functions
  cures_strict_body : {r r' : Where → Reader (List Prototype)} {F : Where → Form (List Prototype)}
      → ((w : Where) → Exact (r w) (F w)) → ((w : Where) → Cures (r w) (r' w)) → ((w : Where) → Bare (r' w))
      → (w : Where) → Cures (strict_body L r w) (strict_body M r' w)
  unfolding strict_body
  cures_strict_body exact one bare w =
      cures_here λ start.
      cures_then (exact_string l) (cures_string L M wide) (λ spelt.
      cures_plainly exact_int plain_int λ line_defined.
      cures_plainly exact_int plain_int λ last_line_defined.
      cures_plainly (exact_field 1) (plain_field 1) λ numparams.
      cures_plainly (exact_field 1) (plain_field 1) λ is_vararg.
      cures_plainly (exact_field 1) (plain_field 1) λ maxstacksize.
      cures_here λ first.
      cures_plainly exact_int plain_int λ size.
      cures_then (exact_at_most size L.max_instructions_per_proto (q.Instructions first)) (cures_at_most size L.max_instructions_per_proto M.max_instructions_per_proto (q.Instructions first) wide.instructions refl) (λ _.
      cures_then (exact_at_most (w.instructions + size) L.max_total_instructions (q.TotalInstructions first)) (cures_at_most (w.instructions + size) L.max_total_instructions M.max_total_instructions (q.TotalInstructions first) wide.all_instructions refl) (λ _.
      cures_here λ instructions_at.
      cures_plainly (exact_many size (exact_field 4)) (plain_many size (plain_field 4)) λ instructions.
      cures_then (exact_strict_counted_up_to L.max_constants_per_proto q.Constants (exact_strict_constant l)) (cures_strict_counted_up_to L.max_constants_per_proto M.max_constants_per_proto q.Constants wide.constants (λ first. refl) (exact_strict_constant l) cures_strict_constant (lacking_strict_constant m)) (λ constants.
      cures_then (exact_strict_counted_up_to L.max_upvalues_per_proto q.Upvalues exact_upvalue) (cures_strict_counted_up_to L.max_upvalues_per_proto M.max_upvalues_per_proto q.Upvalues wide.upvalues (λ first. refl) exact_upvalue (cures_plain plain_upvalue) (lacking_then lacking_byte _)) (λ upvalues.
      cures_here λ first.
      cures_plainly exact_int plain_int λ protos.
      cures_then (exact_at_most protos L.max_total_prototypes (q.Prototypes first)) (cures_at_most protos L.max_total_prototypes M.max_total_prototypes (q.Prototypes first) wide.functions refl) (λ _.
      cures_here λ protos-at.
      cures_then (exact_forest protos (within w (inherit spelt w.source) (length instructions)) exact) (cures_forest L M wide protos (within w (inherit spelt w.source) (length instructions)) exact one bare) (λ nested.
      cures_plainly exact_int plain_int λ line-info-size.
      cures_here λ line-info-at.
      cures_plainly (exact_run line-info-size) (plain_run line-info-size) λ line_info_lem.
      cures_plainly (exact_strict_counted exact_strict_anchor) (plain_strict_counted plain_strict_anchor) λ abs_line_info.
      cures_then (exact_strict_counted (exact_strict_local l)) (cures_strict_counted (exact_strict_local l) cures_strict_local (lacking_strict_local m)) (λ loc_vars.
      cures_then (exact_strict_counted (exact_string l)) (cures_strict_counted (exact_string l) (cures_string L M wide) (lacking_string m)) (λ upvalue_names_lem.
      cures_here λ end.
      cures_plain (plain_give _))
      (λ upvalue_names_lem. bare-here λ end. bare-give _))
      (λ loc_vars. bare_stops (lacking_then (lacking_then lacking_int _) _)))
      (λ nested. bare_stops (lacking_then lacking_int _)))
      (λ _. bare-here λ protos-at. bare_then (bare-forest protos (within w (inherit spelt w.source) (length instructions)) bare) λ nested. bare_stops (lacking_then lacking_int _)))
      (λ upvalues. bare-here λ first. bare_stops (lacking_then lacking_int _)))
      (λ constants. bare_stops (lacking_then (lacking_here λ first. lacking_then lacking_int _) _)))
      (λ _. bare-here λ instructions_at. bare_then (bare-many size lacking_word) λ instructions. bare_stops (lacking_then (lacking_here λ first. lacking_then lacking_int _) _)))
      (λ _. bare_then (bare-test (leb (w.instructions + size) M.max_total_instructions) (q.TotalInstructions first) refl) λ _. bare-here λ instructions_at. bare_then (bare-many size lacking_word) λ instructions. bare_stops (lacking_then (lacking_here λ first. lacking_then lacking_int _) _)))
      (λ spelt. bare_stops (lacking_then lacking_int _))

  deepest : (left' : ℕ) (w : Where) → Cures (strict_enter L zero w) (strict_enter M left' w)
  deepest left' w = record {
    accepts = λ at s x to rest e. never {p = q.NestingDepth at} e;
    cured =
        λ at s p e h. record { front = []; rest = s; whole = refl; same = e; mild = (bare_strict_enter M left' w).at_none at };
  }

  entered : (left left' : ℕ) (w : Where) → Cures (strict_function L left w) (strict_function M left' w)
      → Cures (strict_enter L (suc left) w) (strict_enter M (suc left') w)
  entered left left' w one =
      cures_here λ place.
      cures_then (exact_at_most w.number L.max_total_prototypes (q.TotalPrototypes place)) (cures_at_most w.number L.max_total_prototypes M.max_total_prototypes (q.TotalPrototypes place) wide.functions refl)
      (λ _. one) (λ _. bare_stops (lacking_strict_function M left' w))

  cures_strict_function : (left left' : ℕ) (w : Where) → left ≤ left'
      → Cures (strict_function L left w) (strict_function M left' w)
  unfolding strict_function
  cures_strict_function zero zero w low =
      cures_strict_body {r = strict_enter L zero} {r' = strict_enter M zero} (λ w. exact_place λ place. exact_refuse _) (deepest zero) (bare_strict_enter M zero) w
  cures_strict_function zero (suc left') w low = cures_strict_body {r = strict_enter L zero} {r' = strict_enter M (suc left')} (λ w. exact_place λ place. exact_refuse _) (deepest (suc left')) (bare_strict_enter M (suc left')) w
  cures_strict_function (suc left) zero w low = absurd (omega arith)
  cures_strict_function (suc left) (suc left') w low =
      cures_strict_body {r = strict_enter L (suc left)} {r' = strict_enter M (suc left')}
      (λ w. exact_place λ place. exact_then (exact_at_most w.number L.max_total_prototypes (q.TotalPrototypes place)) λ _. exact_strict_function L left w)
      (λ w. entered left left' w (cures_strict_function left left' w (omega arith))) (bare_strict_enter M (suc left')) w

  -- ## Chunks
  pub strict_limits_only : Cures (strict_main L) (strict_main M)
  strict_limits_only =
      cures_plainly exact_strict_header plain_strict_header λ headed.
      cures_plainly (exact_field 1) (plain_field 1) λ forgotten.
      cures_then (exact_strict_function L L.max_nesting_depth _) (cures_strict_function L.max_nesting_depth M.max_nesting_depth _ wide.nesting) (λ functions. cures_plain (plain_give _)) (λ functions. bare-give _)
