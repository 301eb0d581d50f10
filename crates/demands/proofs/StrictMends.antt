-- What a refusal with 3 to 12 or 31 to 33 names is what is wrong (Mends.antt), of the stricter reading (02, item 7).
--     strict_mends     its reader of a chunk
-- Assumes nothing.
use mathlib.Core.Path.{◌≡◌, refl, sym, ◌∙◌, ap, subst}
use mathlib.Core.Bool.{Bool, true, false}
use mathlib.Core.List.{List, [], ◌∷◌, append-nil}
use mathlib.Core.Logic.{⊎_elim}
use Prim.Native.Nat.{ℕ, zero, suc, ◌+◌, ◌-◌, ◌^◌}
use native.Mathlib.Nat.{add-zero}
use native.Mathlib.Omega.{arith}
use lib.Dec.{leb, ltb, eqb}
use lib.ListN.{length}
use borrow.Author.Tests.{le-leb}
use Rattle.format.specs.declared.limits.ResourceLimits.{ResourceLimits}
use Rattle.format.specs.declared.refusal.Refusal.{Refusal}
use Rattle.format.specs.declared.refusal.Refusal.TheVariants as q
use Rattle.format.specs.Form.{Bytes, Form}
use Rattle.format.specs.Refusals.{reported}
use Rattle.format.specs.GrammarHeader.{luac_data}
use Rattle.format.specs.Reading.{Prototype}
use Rattle.format.specs.GrammarChunk.{inherit, Where, within}
use Rattle.format.specs.Read.{Read, ok, refused, Reader, next, ◌>>=◌, give, test}
use Rattle.format.specs.ReadFields.{byte, number}
use Rattle.format_strict.specs.ReadStrict.{int, strict_counted, strict_counted_up_to, present, strict_tagged, strict_constant, strict_anchor, strict_local, strict_body, strict_function, strict_header, strict_main}
use Rattle.format.proofs.Exact.{Exact, exact_place, exact_then, exact_at_most, exact_run, exact_many}
use Rattle.format.proofs.ExactFields.{exact_field, exact_number, exact_string}
use Rattle.format.proofs.ExactHeader.{exact_expect, exact_before, exact_behind}
use Rattle.format.proofs.ExactChunk.{exact_always, exact_upvalue, exact_forest, exact_refuse}
use Rattle.format_strict.proofs.ExactStrict.{exact_int, exact_strict_counted, exact_strict_counted_up_to, exact_present, exact_strict_constant, exact_strict_anchor, exact_strict_local, exact_strict_function, exact_strict_header}
use Rattle.demands.proofs.Causes.{ordinary}
use Rattle.demands.proofs.Early.{early_number, no, was}
use Rattle.demands.proofs.StrictBlame.{strict_enter}
use Rattle.demands.proofs.Fault.{faulty, limited, Mild, Lacking, Bare, bare_stops, lacking_here, lacking_then, lacking_byte, lacking_word, lacking_string, bare-give, bare-here, bare_then, bare-test, bare-run, bare-many, bare-forest}
use Rattle.demands.proofs.StrictFault.{filled, present_by_lem, lacking_int, lacking_strict_constant, lacking_strict_local, bare_strict_enter}
use Rattle.demands.proofs.Mends.{
  right,
  Begins,
  Mend,
  Mends,
  mends_outside,
  outside-give,
  outside-refuse,
  outside-test,
  outside-here,
  outside_then,
  outside-run,
  outside-field,
  outside-many,
  outside-upvalue,
  mends_here,
  prefix,
  mends_then,
  mends_behind,
  mends_give,
  mends_many,
  mends_expect,
  lacks_expect,
  mends_before,
  mends_after,
  groups_which,
  Now,
  Later,
  later_mends,
  later_pick,
  later_refuse,
  mends_string,
  mends_always,
  mends_forest,
}

-- ## Numbers
-- a reader that begins with a number: what is refused in the number, or right behind it and at once, is mended by a
-- number 1
module _ (L : ResourceLimits) {A : Type 0} (r : Reader A) (f : ℕ → ℕ → Reader A) (is : (at : ℕ) (s : Bytes) → r at s ≡ next (number at s) (f at)) (passes : (at : ℕ) → Mild (r at (0x81 ∷ []))) where
  -- refused in the number
  cut-number : (at : ℕ) (s : Bytes) (p : Refusal) → number at s ≡ refused p → faulty p ≡ true → Mend r at s p
  cut-number at s p e lo =
      let k = groups_which 0 at s p e lo in
      let c = (early_number {of = ordinary} {L = L}).cut at s p e in
      record {
        before = [];
        wrong = c.front;
        rest = c.rest;
        whole = c.whole;
        same = is at c.front ∙ ap (λ o. next o (f at)) c.same;
        begins = subst (λ p. Begins (reported p).place (at + 0)) k tt;
        mild = subst (λ p. Mild (r at (right (reported p).number))) k (passes at);
      }

  -- refused behind it, whatever follows
  behind-number : (at : ℕ) (s : Bytes) (n mid : ℕ) (u : Bytes) (p : Refusal) → number at s ≡ ok n mid u
      → f at n mid [] ≡ refused p → Begins (reported p).place (at + 0) → right (reported p).number ≡ 0x81 ∷ []
      → Mend r at s p
  behind-number at s n mid u p e now begins one =
      let a = exact_number.sound e in
      let there : number at a.bytes ≡ ok n mid [] = ap (number at) (sym (append-nil a.bytes)) ∙ exact_number.complete [] a.spelt ∙ ap (λ m. ok n m []) (sym a.place) in
      record {
        before = [];
        wrong = a.bytes;
        rest = u;
        whole = a.whole;
        same = is at a.bytes ∙ ap (λ o. next o (f at)) there ∙ now;
        begins = begins;
        mild = subst (λ (b : Bytes). Mild (r at b)) (sym one) (passes at);
      }

module _ (L : ResourceLimits) where
  mends_int : Mends int
  mends_int = record { mended = λ at s p e lo. go at s p lo (number at s) refl e }
    where
      f : ℕ → ℕ → Reader ℕ
      f first n = test (ltb n (2 ^ 31 - 128)) (q.IntOverflow first) >>= λ _. give n

      large : (at : ℕ) (s : Bytes) (p : Refusal) (n mid : ℕ) (u : Bytes) → number at s ≡ ok n mid u → (b : Bool)
          → ltb n (2 ^ 31 - 128) ≡ b → next (test b (q.IntOverflow at) mid u) (λ _. give n) ≡ refused p
          → Mend int at s p
      large at s p n mid u is true t e = no e
      large at s p n mid u is false t e =
          let k : q.IntOverflow at ≡ p = was e in
          behind-number L int f (λ at s. refl) (λ at. refl) at s n mid u p is (ap (λ b. next (test b (q.IntOverflow at) mid []) (λ _. give n)) t ∙ ap refused k)
          (subst (λ p. Begins (reported p).place (at + 0)) k (sym (add-zero at))) (subst (λ p. right (reported p).number ≡ 0x81 ∷ []) k refl)

      go : (at : ℕ) (s : Bytes) (p : Refusal) → faulty p ≡ true → (o : Read ℕ) → number at s ≡ o
          → next o (f at) ≡ refused p → Mend int at s p
      go at s p lo (ok n mid u) is e = large at s p n mid u is (ltb n (2 ^ 31 - 128)) refl e
      go at s p lo (refused p') is e =
          cut-number L int f (λ at s. refl) (λ at. refl) at s p (is ∙ ap refused (was e)) lo

  abbrev limit : ℕ
  limit = L.max_string_bytes

  -- ## Strings, lists and entries
  mends_present : Mends (present limit)
  mends_present = record { mended = λ at s p e lo. go at s p lo (number at s) refl (sym (present_by_lem limit at s) ∙ e) }
    where
      whole : (at : ℕ) (s : Bytes) → present limit at s ≡ next (number at s) (filled limit at)
      whole at s = present_by_lem limit at s

      passes : (at : ℕ) → Mild (present limit at (0x81 ∷ []))
      passes at = rw (le-leb 0 limit (omega arith)) refl

      sized : (at : ℕ) (s : Bytes) (p : Refusal) → faulty p ≡ true → (n mid : ℕ) (u : Bytes)
          → number at s ≡ ok n mid u → filled limit at n mid u ≡ refused p → Mend (present limit) at s p
      sized at s p lo zero mid u is e =
          let k : q.NullString at ≡ p = was e in
          behind-number L (present limit) (filled limit) whole passes at s zero mid u p is (ap refused k)
          (subst (λ p. Begins (reported p).place (at + 0)) k (sym (add-zero at))) (subst (λ p. right (reported p).number ≡ 0x81 ∷ []) k refl)
      sized at s p lo (suc n) mid u is e =
          absurd ((outside_then (outside-test (leb n limit) (q.StringBytes at) refl) (λ _. outside-here λ place. outside_then (outside-run n) λ bytes. outside-give _)).never mid u p e lo)

      go : (at : ℕ) (s : Bytes) (p : Refusal) → faulty p ≡ true → (o : Read ℕ) → number at s ≡ o
          → next o (filled limit at) ≡ refused p → Mend (present limit) at s p
      go at s p lo (ok n mid u) is e = sized at s p lo n mid u is e
      go at s p lo (refused p') is e =
          cut-number L (present limit) (filled limit) whole passes at s p (is ∙ ap refused (was e)) lo

  later_strict_tagged : (place tag : ℕ) → Later L place (strict_tagged limit place tag)
  later_strict_tagged place tag =
      later_pick L place (eqb tag 0) (later_mends L place (mends_give _))
      (later_pick L place (eqb tag 1) (later_mends L place (mends_give _))
      (later_pick L place (eqb tag 17) (later_mends L place (mends_give _))
      (later_pick L place (eqb tag 3) (later_mends L place (mends_outside (outside_then (outside-field 8) λ n. outside-give _)))
      (later_pick L place (eqb tag 19) (later_mends L place (mends_outside (outside_then (outside-field 8) λ n. outside-give _)))
      (later_pick L place (eqb tag 4) (later_mends L place (mends_then (exact_present limit) mends_present (λ t. mends_give _) (λ t. bare-give _)))
      (later_pick L place (eqb tag 20) (later_mends L place (mends_then (exact_present limit) mends_present (λ t. mends_give _) (λ t. bare-give _)))
      (later_refuse L place)))))))

  mends_strict_constant : Mends (strict_constant limit)
  mends_strict_constant = record { mended = λ at s p e lo. go at s p lo (byte at s) refl e }
    where
      inner : (at : ℕ) (s : Bytes) (tag mid : ℕ) (u : Bytes) (p : Refusal) → byte at s ≡ ok tag mid u
          → Mend (strict_tagged limit at tag) mid u p → Mend (strict_constant limit) at s p
      inner at s tag mid u p is m = let c = prefix (λ tag. strict_tagged limit at tag) (exact_field 1) at s tag mid u p is m in record { before = c.before; wrong = c.wrong; rest = c.rest; whole = c.whole; same = c.same; begins = c.begins; mild = c.mild }

      unknown : (at : ℕ) (s : Bytes) (tag mid : ℕ) (u : Bytes) (p : Refusal) → byte at s ≡ ok tag mid u
          → Now L at (strict_tagged limit at tag) mid p → Mend (strict_constant limit) at s p
      unknown at s tag mid u p is k =
          let a = (exact_field 1).sound is in
          let there : byte at a.bytes ≡ ok tag mid [] = ap (byte at) (sym (append-nil a.bytes)) ∙ (exact_field 1).complete [] a.spelt ∙ ap (λ m. ok tag m []) (sym a.place) in
          record {
            before = [];
            wrong = a.bytes;
            rest = u;
            whole = a.whole;
            same = ap (λ o. next o (λ tag. strict_tagged limit at tag)) there ∙ k.at_once [] ∙ ap refused k.is;
            begins = subst (λ p. Begins (reported p).place (at + 0)) k.is (sym (add-zero at));
            mild = subst (λ p. Mild (strict_constant limit at (right (reported p).number))) k.is refl;
          }

      go : (at : ℕ) (s : Bytes) (p : Refusal) → faulty p ≡ true → (o : Read ℕ) → byte at s ≡ o
          → next o (λ tag. strict_tagged limit at tag) ≡ refused p → Mend (strict_constant limit) at s p
      go at s p lo (ok tag mid u) is e =
          ⊎_elim (λ (c : Mend (strict_tagged limit at tag) mid u p). inner at s tag mid u p is c) (λ (k : Now L at (strict_tagged limit at tag) mid p). unknown at s tag mid u p is k) ((later_strict_tagged at tag).split mid u p e lo)
      go at s p lo (refused p') is e = absurd ((outside-field 1).never at s p (is ∙ ap refused (was e)) lo)

  mends_strict_anchor : Mends strict_anchor
  mends_strict_anchor = mends_then exact_int mends_int (λ pc. mends_then exact_int mends_int (λ line. mends_give _) (λ line. bare-give _)) (λ pc. bare_stops (lacking_then lacking_int _))

  mends_strict_local : Mends (strict_local limit)
  mends_strict_local =
      mends_then (exact_always limit (63 ∷ [])) (mends_always L (63 ∷ []))
      (λ name. mends_then exact_int mends_int (λ startpc. mends_then exact_int mends_int (λ endpc. mends_give _) (λ endpc. bare-give _)) (λ startpc. bare_stops (lacking_then lacking_int _)))
      (λ name. bare_stops (lacking_then lacking_int _))

  mends_strict_counted : {A : Type 0} {r : Reader A} {F : Form A} → Exact r F → Mends r → Lacking r
      → Mends (strict_counted r)
  mends_strict_counted exact one lacks =
      mends_then exact_int mends_int
      (λ n. mends_here λ place. mends_then (exact_many n exact) (mends_many n exact one lacks) (λ items. mends_give _) (λ items. bare-give _))
      (λ n. bare-here λ place. bare_then (bare-many n lacks) λ items. bare-give _)

  mends_strict_counted_up_to : {A : Type 0} {r : Reader A} {F : Form A} (most : ℕ) (over : ℕ → Refusal)
      → ((first : ℕ) → limited (over first) ≡ true) → Exact r F → Mends r → Lacking r
      → Mends (strict_counted_up_to most over r)
  mends_strict_counted_up_to most over h exact one lacks =
      mends_here λ first.
      mends_then exact_int mends_int
      (λ n. mends_behind (exact_at_most n most (over first)) (outside-test (leb n most) (over first) (h first)) λ _. mends_here λ place. mends_then (exact_many n exact) (mends_many n exact one lacks) (λ items. mends_give _) (λ items. bare-give _))
      (λ n. bare_then (bare-test (leb n most) (over first) (h first)) λ _. bare-here λ place. bare_then (bare-many n lacks) λ items. bare-give _)

  -- ## Functions
  mends_strict_body : {r : Where → Reader (List Prototype)} {F : Where → Form (List Prototype)}
      → ((w : Where) → Exact (r w) (F w)) → ((w : Where) → Mends (r w)) → ((w : Where) → Bare (r w)) → (w : Where)
      → Mends (strict_body L r w)
  unfolding strict_body
  mends_strict_body exact one bare w =
      mends_here λ start.
      mends_then (exact_string limit) (mends_string L) (λ spelt.
      mends_then exact_int mends_int (λ line_defined.
      mends_then exact_int mends_int (λ last_line_defined.
      mends_behind (exact_field 1) (outside-field 1) λ numparams.
      mends_behind (exact_field 1) (outside-field 1) λ is_vararg.
      mends_behind (exact_field 1) (outside-field 1) λ maxstacksize.
      mends_here λ first.
      mends_then exact_int mends_int (λ size.
      mends_behind (exact_at_most size L.max_instructions_per_proto (q.Instructions first)) (outside-test (leb size L.max_instructions_per_proto) (q.Instructions first) refl) λ _.
      mends_behind (exact_at_most (w.instructions + size) L.max_total_instructions (q.TotalInstructions first)) (outside-test (leb (w.instructions + size) L.max_total_instructions) (q.TotalInstructions first) refl) λ _.
      mends_here λ instructions_at.
      mends_behind (exact_many size (exact_field 4)) (outside-many size (outside-field 4)) λ instructions.
      mends_then (exact_strict_counted_up_to L.max_constants_per_proto q.Constants (exact_strict_constant limit)) (mends_strict_counted_up_to L.max_constants_per_proto q.Constants (λ first. refl) (exact_strict_constant limit) mends_strict_constant (lacking_strict_constant limit)) (λ constants.
      mends_then (exact_strict_counted_up_to L.max_upvalues_per_proto q.Upvalues exact_upvalue) (mends_strict_counted_up_to L.max_upvalues_per_proto q.Upvalues (λ first. refl) exact_upvalue (mends_outside outside-upvalue) (lacking_then lacking_byte _)) (λ upvalues.
      mends_here λ first.
      mends_then exact_int mends_int (λ protos.
      mends_behind (exact_at_most protos L.max_total_prototypes (q.Prototypes first)) (outside-test (leb protos L.max_total_prototypes) (q.Prototypes first) refl) λ _.
      mends_here λ protos-at.
      mends_then (exact_forest protos (within w (inherit spelt w.source) (length instructions)) exact) (mends_forest L protos (within w (inherit spelt w.source) (length instructions)) exact one bare) (λ nested.
      mends_then exact_int mends_int (λ line-info-size.
      mends_here λ line-info-at.
      mends_behind (exact_run line-info-size) (outside-run line-info-size) λ line_info_lem.
      mends_then (exact_strict_counted exact_strict_anchor) (mends_strict_counted exact_strict_anchor mends_strict_anchor (lacking_then lacking_int _)) (λ abs_line_info.
      mends_then (exact_strict_counted (exact_strict_local limit)) (mends_strict_counted (exact_strict_local limit) mends_strict_local (lacking_strict_local limit)) (λ loc_vars.
      mends_then (exact_strict_counted (exact_string limit)) (mends_strict_counted (exact_string limit) (mends_string L) (lacking_string limit)) (λ upvalue_names_lem.
      mends_here λ end.
      mends_give _)
      (λ upvalue_names_lem. bare-here λ end. bare-give _))
      (λ loc_vars. bare_stops (lacking_then (lacking_then lacking_int _) _)))
      (λ abs_line_info. bare_stops (lacking_then (lacking_then lacking_int _) _)))
      (λ line-info-size. bare-here λ line-info-at. bare_then (bare-run line-info-size) λ line_info_lem. bare_stops (lacking_then (lacking_then lacking_int _) _)))
      (λ nested. bare_stops (lacking_then lacking_int _)))
      (λ protos. bare_then (bare-test (leb protos L.max_total_prototypes) (q.Prototypes first) refl) λ _. bare-here λ protos-at. bare_then (bare-forest protos (within w (inherit spelt w.source) (length instructions)) bare) λ nested. bare_stops (lacking_then lacking_int _)))
      (λ upvalues. bare-here λ first. bare_stops (lacking_then lacking_int _)))
      (λ constants. bare_stops (lacking_then (lacking_here λ first. lacking_then lacking_int _) _)))
      (λ size. bare_then (bare-test (leb size L.max_instructions_per_proto) (q.Instructions first) refl) λ _. bare_then (bare-test (leb (w.instructions + size) L.max_total_instructions) (q.TotalInstructions first) refl) λ _. bare-here λ instructions_at. bare_then (bare-many size lacking_word) λ instructions. bare_stops (lacking_then (lacking_here λ first. lacking_then lacking_int _) _)))
      (λ last_line_defined. bare_stops (lacking_then lacking_byte _)))
      (λ line_defined. bare_stops (lacking_then lacking_int _)))
      (λ spelt. bare_stops (lacking_then lacking_int _))

  mends_strict_function : (left : ℕ) (w : Where) → Mends (strict_function L left w)
  unfolding strict_function
  mends_strict_function zero w = mends_strict_body {r = strict_enter L zero} (λ w. exact_place λ place. exact_refuse _) (λ w. mends_here λ place. mends_outside (outside-refuse (q.NestingDepth place) refl)) (bare_strict_enter L zero) w
  mends_strict_function (suc left) w =
      mends_strict_body {r = strict_enter L (suc left)}
      (λ w. exact_place λ place. exact_then (exact_at_most w.number L.max_total_prototypes (q.TotalPrototypes place)) λ _. exact_strict_function L left w)
      (λ w. mends_here λ place. mends_behind (exact_at_most w.number L.max_total_prototypes (q.TotalPrototypes place)) (outside-test (leb w.number L.max_total_prototypes) (q.TotalPrototypes place) refl) λ _. mends_strict_function left w)
      (bare_strict_enter L (suc left)) w

  -- ## Chunks
  mends_strict_header : Mends strict_header
  mends_strict_header =
      mends_then exact_before mends_before
      (λ _. mends_then (exact_expect (0 ∷ []) q.Format) (mends_expect (0 ∷ []) q.Format (λ place. refl) (λ place. sym (add-zero place)))
      (λ _. mends_then exact_behind mends_after (λ _. mends_give _) (λ _. bare-give _))
      (λ _. bare_stops (lacking_then (lacking_then (lacks_expect luac_data q.LuacData 5 refl) _) _)))
      (λ _. bare_stops (lacking_then (lacks_expect (0 ∷ []) q.Format 0 refl) _))

  pub strict_mends : Mends (strict_main L)
  strict_mends =
      mends_then exact_strict_header mends_strict_header
      (λ headed. mends_behind (exact_field 1) (outside-field 1) λ forgotten. mends_then (exact_strict_function L L.max_nesting_depth _) (mends_strict_function L.max_nesting_depth _) (λ functions. mends_give _) (λ functions. bare-give _))
      (λ headed. bare_stops (lacking_then lacking_byte _))
