-- What a refusal with 3 to 12 names is what is wrong: with the right bytes in the place of the wrong ones (`right`:
-- the field's own, a tag 0, a number 81) the front is refused for no fault any more: it is read to its end, or lacks
-- bytes, or meets a limit. So no reader that names another field's number, a tag for a field or a tag for a number is
-- ours, though the bytes be wrong for that too. (8 and 9 miss the same byte, and 12 and 31 in the stricter reading:
-- HeaderPlaces.antt tells them apart. 3 has no place, so of it this says little: that the file's last bytes are a number
-- that is too large is Causes.antt, and worked cases see to the rest.) One law for each way to make a reader.
--     right n          the bytes that the number n misses
--     Mend r at s p    the file up to the end of the wrong bytes is refused so, the place is where they begin, and
--                      with the right ones in their place it is mild (Fault.antt)
--     mends            the reader of a chunk
-- Assumes nothing.
use Rattle.std.specs.Prelude.{Option, Some, None}
use mathlib.Core.Path.{◌≡◌, refl, sym, ◌∙◌, ap, subst}
use mathlib.Core.Bool.{Bool, true, false, cond, ◌||◌}
use mathlib.Core.List.{List, [], ◌∷◌, ◌++◌, append_assoc, append-nil}
use mathlib.Core.Logic.{◌⊎◌, inl, inr, ⊎_elim}
use Prim.Native.Nat.{ℕ, zero, suc, ◌+◌, ◌-◌, ◌*◌, ◌%◌, ◌^◌}
use native.Mathlib.Nat.{add-zero}
use native.Mathlib.Omega.{arith}
use lib.Dec.{leb, ltb, eqb}
use lib.ListN.{length, length-append}
use Rattle.format.specs.declared.limits.ResourceLimits.{ResourceLimits}
use Rattle.format.specs.declared.refusal.Refusal.{Refusal}
use Rattle.format.specs.declared.refusal.Refusal.TheVariants as q
use Rattle.format.specs.Form.{Bytes, Form}
use Rattle.format.specs.Refusals.{reported}
use Rattle.format.specs.Reading.{Prototype}
use Rattle.format.specs.GrammarHeader.{signature, luac_data, luac_int, luac_num}
use Rattle.format.specs.GrammarChunk.{inherit, Where, after, within}
use Rattle.format.specs.Read.{Read, ok, refused, Reader, next, ◌>>=◌, give, here, refuse, test, piece, run, many}
use Rattle.format.specs.ReadFields.{field, byte, groups, number, content, string}
use Rattle.format.specs.ReadHeader.{same_bytes, expect, before_format, behind_format, header}
use Rattle.format.specs.ReadChunk.{counted, counted_up_to, always, tagged, constant, upvalue, anchor, local, forest, body, function, main}
use Rattle.format.proofs.Exact.{Exact, exact_place, exact_then, exact_at_most, exact_run, exact_many}
use Rattle.format.proofs.ExactFields.{exact_field, exact_number, exact_string}
use Rattle.format.proofs.ExactHeader.{exact_expect, exact_before, exact_behind, exact_header}
use Rattle.format.proofs.ExactChunk.{exact_counted, exact_counted_up_to, exact_always, exact_constant, exact_upvalue, exact_anchor, exact_local, exact_forest, exact_function, exact_refuse}
use Rattle.demands.proofs.Causes.{ordinary}
use Rattle.demands.proofs.Early.{early_number, no, was}
use Rattle.demands.proofs.AtOneByte.{enter}
use Rattle.demands.proofs.Fault.{faulty, limited, late, clash, Mild, Lacking, Bare, bare_stops, lacking_here, lacking_then, lacking_number, lacking_run, lacking_byte, lacking_word, lacking_string, lacking_constant, bare-give, bare-here, bare_then, bare-test, bare-run, bare-many, bare-forest, bare_enter}

-- 3, 32, 33: a number; 4 to 11: the header's fields; 12: a tag; 31: the format byte
abbrev pub right : ℕ → Bytes
right n =
    cond (eqb n 3 || leb 32 n) (0x81 ∷ [])
    (cond (eqb n 4) signature
    (cond (eqb n 5) (0x54 ∷ [])
    (cond (eqb n 6) luac_data
    (cond (eqb n 7) (4 ∷ [])
    (cond (eqb n 8) (8 ∷ [])
    (cond (eqb n 9) (8 ∷ [])
    (cond (eqb n 10) luac_int
    (cond (eqb n 11) luac_num
    (0 ∷ [])))))))))

-- the place, if there is one
abbrev pub Begins : Option ℕ → ℕ → Type 0
Begins (Some place) n = place ≡ n
Begins None n = Unit {0}

pub record Mend {A : Type 0} (r : Reader A) (at : ℕ) (s : Bytes) (p : Refusal) : Type 0 where
  pub before : Bytes
  pub wrong : Bytes
  pub rest : Bytes
  pub whole : s ≡ before ++ (wrong ++ rest)
  pub same : r at (before ++ wrong) ≡ refused p
  pub begins : Begins (reported p).place (at + length before)
  pub mild : Mild (r at (before ++ right (reported p).number))

pub record Mends {A : Type 0} (r : Reader A) : Type 0 where
  pub mended : (at : ℕ) (s : Bytes) (p : Refusal) → r at s ≡ refused p → faulty p ≡ true → Mend r at s p

pub begins_on : (place : Option ℕ) {m n : ℕ} → m ≡ n → Begins place m → Begins place n
begins_on (Some place) e h = h ∙ e
begins_on None e h = tt

-- ## Readers that never refuse by 3 to 12
pub record Outside {A : Type 0} (r : Reader A) : Type 0 where
  pub never : (at : ℕ) (s : Bytes) (p : Refusal) → r at s ≡ refused p → faulty p ≡ true → ⊥

pub mends_outside : {A : Type 0} {r : Reader A} → Outside r → Mends r
mends_outside one = record { mended = λ at s p e lo. absurd (one.never at s p e lo) }

pub outside-give : {A : Type 0} (x : A) → Outside (give x)
outside-give x = record { never = λ at s p e lo. no e }

pub outside-refuse : {A : Type 0} (p : Refusal) → limited p ≡ true → Outside {A = A} (refuse p)
outside-refuse p h = record { never = λ at s p' e lo. clash lo (late p' (subst (λ p. limited p ≡ true) (was e) h)) }

pub outside-test : (b : Bool) (p : Refusal) → limited p ≡ true → Outside (test b p)
outside-test true p h = outside-give tt
outside-test false p h = outside-refuse p h

pub outside-here : {B : Type 0} {f : ℕ → Reader B} → ((place : ℕ) → Outside (f place)) → Outside (here >>= f)
outside-here two = record { never = λ at s p e lo. (two at).never at s p e lo }

pub outside_then : {A B : Type 0} {r : Reader A} {f : A → Reader B} → Outside r → ((x : A) → Outside (f x))
    → Outside (r >>= f)
outside_then {A} {B} {r} {f} one two = record { never = λ at s p e lo. go at s p lo (r at s) refl e }
  where
    go : (at : ℕ) (s : Bytes) (p : Refusal) → faulty p ≡ true → (o : Read A) → r at s ≡ o → next o f ≡ refused p → ⊥
    go at s p lo (ok x to rest) is e = (two x).never to rest p e lo
    go at s p lo (refused p') is e = one.never at s p (is ∙ ap refused (was e)) lo

pub short-low : (b : Bool) (at : ℕ) → faulty (cond b (q.Truncated at) q.Overflow) ≡ false
short-low true at = refl
short-low false at = refl

pub outside-run : (n : ℕ) → Outside (run n)
outside-run n = record { never = λ at s p e lo. go at s p lo (leb n (length s)) e }
  where
    go : (at : ℕ) (s : Bytes) (p : Refusal) → faulty p ≡ true → (b : Bool) → piece b n at s ≡ refused p → ⊥
    go at s p lo true e = no e
    go at s p lo false e = clash lo (subst (λ p. faulty p ≡ false) (was e) (short-low (ltb (at + n) (2 ^ 64)) at))

pub outside-field : (n : ℕ) → Outside (field n)
outside-field n = outside_then (outside-run n) λ bytes. outside-give _

pub outside-many : {A : Type 0} {r : Reader A} (n : ℕ) → Outside r → Outside (many n r)
outside-many zero one = outside-give []
outside-many (suc n) one = outside_then one λ x. outside_then (outside-many n one) λ xs. outside-give _

pub outside-upvalue : Outside upvalue
outside-upvalue =
    outside_then (outside-field 1) λ instack. outside_then (outside-field 1) λ idx. outside_then (outside-field 1) λ kind. outside-give _

-- ## Ways to make a reader
pub mends_here : {B : Type 0} {f : ℕ → Reader B} → ((place : ℕ) → Mends (f place)) → Mends (here >>= f)
mends_here two = record { mended = λ at s p e lo. (let c = (two at).mended at s p e lo in record { before = c.before; wrong = c.wrong; rest = c.rest; whole = c.whole; same = c.same; begins = c.begins; mild = c.mild }) }

-- behind what was read
pub prefix : {A B : Type 0} {r : Reader A} {F : Form A} (f : A → Reader B) → Exact r F
    → (at : ℕ) (s : Bytes) (y : A) (mid : ℕ) (u : Bytes) (p : Refusal) → r at s ≡ ok y mid u → Mend (f y) mid u p
    → Mend (r >>= f) at s p
prefix {A} {B} {r} f exact at s y mid u p is c =
    let a = exact.sound is in
    let n = right (reported p).number in
    let on : (v : Bytes) → r at (a.bytes ++ v) ≡ ok y mid v = λ v. exact.complete v a.spelt ∙ ap (λ m. ok y m v) (sym a.place) in
    let place = a.place in
    let long = length-append a.bytes c.before in
    record {
      before = a.bytes ++ c.before;
      wrong = c.wrong;
      rest = c.rest;
      whole =
          a.whole ∙ ap (λ b. a.bytes ++ b) c.whole ∙ sym (append_assoc a.bytes c.before (c.wrong ++ c.rest));
      same =
          ap (λ b. next (r at b) f) (append_assoc a.bytes c.before c.wrong) ∙ ap (λ o. next o f) (on (c.before ++ c.wrong)) ∙ c.same;
      begins = begins_on (reported p).place (omega arith) c.begins;
      mild = subst (λ (b : Bytes). Mild (next (r at b) f)) (sym (append_assoc a.bytes c.before n)) (subst (λ (o : Read A). Mild (next o f)) (sym (on (c.before ++ n))) c.mild);
    }

pub mends_then : {A B : Type 0} {r : Reader A} {F : Form A} {f : A → Reader B} → Exact r F → Mends r
    → ((x : A) → Mends (f x)) → ((x : A) → Bare (f x)) → Mends (r >>= f)
mends_then {A} {B} {r} {F} {f} exact one two bare = record { mended = λ at s p e lo. go at s p lo (r at s) refl e }
  where
    behind : (o : Read A) → Mild o → Mild (next o f)
    behind (ok y mid v) k = subst (λ (v : Bytes). Mild (f y mid v)) (sym k) ((bare y).at_none mid)
    behind (refused p) k = k

    go : (at : ℕ) (s : Bytes) (p : Refusal) → faulty p ≡ true → (o : Read A) → r at s ≡ o → next o f ≡ refused p
        → Mend (r >>= f) at s p
    go at s p lo (ok y mid u) is e = prefix f exact at s y mid u p is ((two y).mended mid u p e lo)
    go at s p lo (refused p') is e =
        let c = one.mended at s p (is ∙ ap refused (was e)) lo in
        record { before = c.before; wrong = c.wrong; rest = c.rest; whole = c.whole; same = ap (λ o. next o f) c.same; begins = c.begins; mild = behind (r at (c.before ++ right (reported p).number)) c.mild }

-- behind a reader that never refuses so
pub mends_behind : {A B : Type 0} {r : Reader A} {F : Form A} {f : A → Reader B} → Exact r F → Outside r
    → ((x : A) → Mends (f x)) → Mends (r >>= f)
mends_behind {A} {B} {r} {F} {f} exact one two = record { mended = λ at s p e lo. go at s p lo (r at s) refl e }
  where
    go : (at : ℕ) (s : Bytes) (p : Refusal) → faulty p ≡ true → (o : Read A) → r at s ≡ o → next o f ≡ refused p
        → Mend (r >>= f) at s p
    go at s p lo (ok y mid u) is e = prefix f exact at s y mid u p is ((two y).mended mid u p e lo)
    go at s p lo (refused p') is e = absurd (one.never at s p (is ∙ ap refused (was e)) lo)

pub mends_give : {A : Type 0} (x : A) → Mends (give x)
mends_give x = mends_outside (outside-give x)

pub mends_many : {A : Type 0} {r : Reader A} {F : Form A} (n : ℕ) → Exact r F → Mends r → Lacking r → Mends (many n r)
mends_many zero exact one lacks = mends_give []
mends_many (suc n) exact one lacks =
    mends_then exact one
    (λ x. mends_then (exact_many n exact) (mends_many n exact one lacks) (λ xs. mends_give _) (λ xs. bare-give _))
    (λ x. bare_then (bare-many n lacks) λ xs. bare-give _)

-- ## The header's fields
pub mends_expect : (bytes : Bytes) (over : ℕ → Refusal)
    → ((place : ℕ) → right (reported (over place)).number ≡ bytes)
    → ((place : ℕ) → Begins (reported (over place)).place (place + 0)) → Mends (expect bytes over)
mends_expect bytes over is_right placed = record { mended = λ at s p e lo. go at s p lo (run (length bytes) at s) refl e }
  where
    passes : (at : ℕ) → expect bytes over at bytes ≡ ok tt (at + length bytes) []
    passes at = ap (expect bytes over at) (sym (append-nil bytes)) ∙ (exact_expect bytes over).complete {at = at} [] (record { value = bytes; front = bytes; back = []; whole = sym (append-nil bytes); one = (refl, refl); two = (refl, refl) })

    right_mild : (at : ℕ) → Mild (expect bytes over at bytes)
    right_mild at = subst (λ (o : Read (Unit {0})). Mild o) (sym (passes at)) refl

    wrongly : (at : ℕ) (s : Bytes) (p : Refusal) (b : Bytes) (mid : ℕ) (u : Bytes)
        → run (length bytes) at s ≡ ok b mid u → (t : Bool) → same_bytes b bytes ≡ t
        → test t (over at) mid u ≡ refused p → Mend (expect bytes over) at s p
    wrongly at s p b mid u is true t e = no e
    wrongly at s p b mid u is false t e =
        let k : over at ≡ p = was e in
        let a = (exact_run (length bytes)).sound is in
        let there : run (length bytes) at a.bytes ≡ ok b mid [] = ap (run (length bytes) at) (sym (append-nil a.bytes)) ∙ (exact_run (length bytes)).complete [] a.spelt ∙ ap (λ m. ok b m []) (sym a.place) in
        record {
          before = [];
          wrong = a.bytes;
          rest = u;
          whole = a.whole;
          same =
              ap (λ o. next o (λ b. test (same_bytes b bytes) (over at))) there ∙ ap (λ t. test t (over at) mid []) t ∙ ap refused k;
          begins = subst (λ p. Begins (reported p).place (at + 0)) k (placed at);
          mild = subst (λ p. Mild (expect bytes over at (right (reported p).number))) k (subst (λ (b : Bytes). Mild (expect bytes over at b)) (sym (is_right at)) (right_mild at));
        }

    go : (at : ℕ) (s : Bytes) (p : Refusal) → faulty p ≡ true → (o : Read Bytes) → run (length bytes) at s ≡ o
        → next o (λ b. test (same_bytes b bytes) (over at)) ≡ refused p → Mend (expect bytes over) at s p
    go at s p lo (ok b mid u) is e = wrongly at s p b mid u is (same_bytes b bytes) refl e
    go at s p lo (refused p') is e = absurd ((outside-run (length bytes)).never at s p (is ∙ ap refused (was e)) lo)

pub lacks_expect : (bytes : Bytes) (over : ℕ → Refusal) (n : ℕ) → length bytes ≡ suc n → Lacking (expect bytes over)
lacks_expect bytes over n e = lacking_here λ place. subst (λ k. Lacking (run k >>= λ b. test (same_bytes b bytes) (over place))) (sym e) (lacking_then (lacking_run n) (λ b. test (same_bytes b bytes) (over place)))

pub mends_before : Mends before_format
mends_before =
    mends_then (exact_expect signature q.Signature) (mends_expect signature q.Signature (λ place. refl) (λ place. sym (add-zero place)))
    (λ _. mends_expect (0x54 ∷ []) q.Version (λ place. refl) (λ place. sym (add-zero place))) (λ _. bare_stops (lacks_expect (0x54 ∷ []) q.Version 0 refl))

pub mends_after : Mends behind_format
mends_after =
    mends_then (exact_expect luac_data q.LuacData) (mends_expect luac_data q.LuacData (λ place. refl) (λ place. sym (add-zero place))) (λ _.
    mends_then (exact_expect (4 ∷ []) q.InstructionSize) (mends_expect (4 ∷ []) q.InstructionSize (λ place. refl) (λ place. sym (add-zero place))) (λ _.
    mends_then (exact_expect (8 ∷ []) q.LuaIntegerSize) (mends_expect (8 ∷ []) q.LuaIntegerSize (λ place. refl) (λ place. sym (add-zero place))) (λ _.
    mends_then (exact_expect (8 ∷ []) q.LuaNumberSize) (mends_expect (8 ∷ []) q.LuaNumberSize (λ place. refl) (λ place. sym (add-zero place))) (λ _.
    mends_then (exact_expect luac_int q.LuacInt) (mends_expect luac_int q.LuacInt (λ place. refl) (λ place. sym (add-zero place))) (λ _.
    mends_expect luac_num q.LuacNum (λ place. refl) (λ place. sym (add-zero place)))
    (λ _. bare_stops (lacks_expect luac_num q.LuacNum 7 refl)))
    (λ _. bare_stops (lacking_then (lacks_expect luac_int q.LuacInt 7 refl) _)))
    (λ _. bare_stops (lacking_then (lacks_expect (8 ∷ []) q.LuaNumberSize 0 refl) _)))
    (λ _. bare_stops (lacking_then (lacks_expect (8 ∷ []) q.LuaIntegerSize 0 refl) _)))
    (λ _. bare_stops (lacking_then (lacks_expect (4 ∷ []) q.InstructionSize 0 refl) _))

pub mends_header : Mends header
mends_header =
    mends_then exact_before mends_before
    (λ _. mends_here λ place. mends_behind (exact_field 1) (outside-field 1) λ format. mends_then exact_behind mends_after (λ _. mends_give _) (λ _. bare-give _))
    (λ _. bare-here λ place. bare_stops (lacking_then lacking_byte _))

-- ## Numbers
pub groups_which : (high at : ℕ) (s : Bytes) (p : Refusal) → groups high at s ≡ refused p → faulty p ≡ true
    → q.VarintOverflow ≡ p
groups_which high at [] p e lo = clash lo (subst (λ p. faulty p ≡ false) (was e) (short-low (ltb (at + 1) (2 ^ 64)) at))
groups_which high at (x ∷ s) p e lo =
    go (λ e. groups_which (high * 128 + x) (at + 1) s p e lo) (ltb high (2 ^ 57 - 1)) (ltb x 128) e
  where
    go : (groups (high * 128 + x) (at + 1) s ≡ refused p → q.VarintOverflow ≡ p) → (fits low : Bool)
        → cond fits (cond low (groups (high * 128 + x) (at + 1) s) (ok (high * 128 + x % 128) (at + 1) s)) (refused q.VarintOverflow) ≡ refused p → q.VarintOverflow ≡ p
    go on true true e = on e
    go on true false e = no e
    go on false low e = was e

module _ (L : ResourceLimits) where
  pub mends_number : Mends number
  mends_number = record {
    mended = λ at s p e lo. (
        let k = groups_which 0 at s p e lo in
        let c = (early_number {of = ordinary} {L = L}).cut at s p e in
        record {
          before = [];
          wrong = c.front;
          rest = c.rest;
          whole = c.whole;
          same = c.same;
          begins = subst (λ p. Begins (reported p).place (at + 0)) k tt;
          mild = subst (λ p. Mild (number at (right (reported p).number))) k refl;
        });
  }

  abbrev limit : ℕ
  limit = L.max_string_bytes

  -- ## Strings, lists and entries
  pub mends_string : Mends (string limit)
  mends_string = mends_here λ first. mends_then exact_number mends_number (by first) (bare first)
    where
      by : (first size : ℕ) → Mends (content limit first size)
      by first zero = mends_give _
      by first (suc n) = mends_outside (outside_then (outside-test (leb n limit) (q.StringBytes first) refl) λ _. outside-here λ place. outside_then (outside-run n) λ bytes. outside-give _)

      bare : (first size : ℕ) → Bare (content limit first size)
      bare first zero = bare-give _
      bare first (suc n) =
          bare_then (bare-test (leb n limit) (q.StringBytes first) refl) λ _. bare-here λ place. bare_then (bare-run n) λ bytes. bare-give _

  pub mends_always : (instead : Bytes) → Mends (always limit instead)
  mends_always instead =
      mends_then (exact_string limit) mends_string (λ t. mends_here λ place. mends_give _) (λ t. bare-here λ place. bare-give _)

  -- a tag that is none, or what stands behind one
  pub record Now {A : Type 0} (place : ℕ) (g : Reader A) (mid : ℕ) (p : Refusal) : Type 0 where
    pub is : q.ConstantTag place ≡ p
    pub at_once : (v : Bytes) → g mid v ≡ refused (q.ConstantTag place)

  pub record Later {A : Type 0} (place : ℕ) (g : Reader A) : Type 0 where
    pub split : (mid : ℕ) (u : Bytes) (p : Refusal) → g mid u ≡ refused p → faulty p ≡ true
        → Mend g mid u p ⊎ Now place g mid p

  pub later_mends : {A : Type 0} {g : Reader A} (place : ℕ) → Mends g → Later place g
  later_mends place one = record { split = λ mid u p e lo. inl (one.mended mid u p e lo) }

  pub later_pick : {A : Type 0} {g h : Reader A} (place : ℕ) (b : Bool) → Later place g → Later place h
      → Later place (cond b g h)
  later_pick place true one two = one
  later_pick place false one two = two

  pub later_refuse : {A : Type 0} (place : ℕ) → Later {A = A} place (refuse (q.ConstantTag place))
  later_refuse place = record { split = λ mid u p e lo. inr (record { is = was e; at_once = λ v. refl }) }

  pub later_tagged : (place tag : ℕ) → Later place (tagged limit place tag)
  later_tagged place tag =
      later_pick place (eqb tag 0) (later_mends place (mends_give _))
      (later_pick place (eqb tag 1) (later_mends place (mends_give _))
      (later_pick place (eqb tag 17) (later_mends place (mends_give _))
      (later_pick place (eqb tag 3) (later_mends place (mends_outside (outside_then (outside-field 8) λ n. outside-give _)))
      (later_pick place (eqb tag 19) (later_mends place (mends_outside (outside_then (outside-field 8) λ n. outside-give _)))
      (later_pick place (eqb tag 4) (later_mends place (mends_then (exact_always limit []) (mends_always []) (λ t. mends_give _) (λ t. bare-give _)))
      (later_pick place (eqb tag 20) (later_mends place (mends_then (exact_always limit []) (mends_always []) (λ t. mends_give _) (λ t. bare-give _)))
      (later_refuse place)))))))

  pub mends_constant : Mends (constant limit)
  mends_constant = record { mended = λ at s p e lo. go at s p lo (byte at s) refl e }
    where
      inner : (at : ℕ) (s : Bytes) (tag mid : ℕ) (u : Bytes) (p : Refusal) → byte at s ≡ ok tag mid u
          → Mend (tagged limit at tag) mid u p → Mend (constant limit) at s p
      inner at s tag mid u p is m = let c = prefix (λ tag. tagged limit at tag) (exact_field 1) at s tag mid u p is m in record { before = c.before; wrong = c.wrong; rest = c.rest; whole = c.whole; same = c.same; begins = c.begins; mild = c.mild }

      unknown : (at : ℕ) (s : Bytes) (tag mid : ℕ) (u : Bytes) (p : Refusal) → byte at s ≡ ok tag mid u
          → Now at (tagged limit at tag) mid p → Mend (constant limit) at s p
      unknown at s tag mid u p is k =
          let a = (exact_field 1).sound is in
          let there : byte at a.bytes ≡ ok tag mid [] = ap (byte at) (sym (append-nil a.bytes)) ∙ (exact_field 1).complete [] a.spelt ∙ ap (λ m. ok tag m []) (sym a.place) in
          record {
            before = [];
            wrong = a.bytes;
            rest = u;
            whole = a.whole;
            same = ap (λ o. next o (λ tag. tagged limit at tag)) there ∙ k.at_once [] ∙ ap refused k.is;
            begins = subst (λ p. Begins (reported p).place (at + 0)) k.is (sym (add-zero at));
            mild = subst (λ p. Mild (constant limit at (right (reported p).number))) k.is refl;
          }

      go : (at : ℕ) (s : Bytes) (p : Refusal) → faulty p ≡ true → (o : Read ℕ) → byte at s ≡ o
          → next o (λ tag. tagged limit at tag) ≡ refused p → Mend (constant limit) at s p
      go at s p lo (ok tag mid u) is e =
          ⊎_elim (λ (c : Mend (tagged limit at tag) mid u p). inner at s tag mid u p is c) (λ (k : Now at (tagged limit at tag) mid p). unknown at s tag mid u p is k) ((later_tagged at tag).split mid u p e lo)
      go at s p lo (refused p') is e = absurd ((outside-field 1).never at s p (is ∙ ap refused (was e)) lo)

  pub mends_anchor : Mends anchor
  mends_anchor = mends_then exact_number mends_number (λ pc. mends_then exact_number mends_number (λ line. mends_give _) (λ line. bare-give _)) (λ pc. bare_stops (lacking_then lacking_number _))

  pub mends_local : Mends (local limit)
  mends_local =
      mends_then (exact_always limit (63 ∷ [])) (mends_always (63 ∷ []))
      (λ name. mends_then exact_number mends_number (λ startpc. mends_then exact_number mends_number (λ endpc. mends_give _) (λ endpc. bare-give _)) (λ startpc. bare_stops (lacking_then lacking_number _)))
      (λ name. bare_stops (lacking_then lacking_number _))

  pub mends_counted : {A : Type 0} {r : Reader A} {F : Form A} → Exact r F → Mends r → Lacking r → Mends (counted r)
  mends_counted exact one lacks =
      mends_then exact_number mends_number
      (λ n. mends_here λ place. mends_then (exact_many n exact) (mends_many n exact one lacks) (λ items. mends_give _) (λ items. bare-give _))
      (λ n. bare-here λ place. bare_then (bare-many n lacks) λ items. bare-give _)

  pub mends_counted_up_to : {A : Type 0} {r : Reader A} {F : Form A} (most : ℕ) (over : ℕ → Refusal)
      → ((first : ℕ) → limited (over first) ≡ true) → Exact r F → Mends r → Lacking r → Mends (counted_up_to most over r)
  mends_counted_up_to most over h exact one lacks =
      mends_here λ first.
      mends_then exact_number mends_number
      (λ n. mends_behind (exact_at_most n most (over first)) (outside-test (leb n most) (over first) (h first)) λ _. mends_here λ place. mends_then (exact_many n exact) (mends_many n exact one lacks) (λ items. mends_give _) (λ items. bare-give _))
      (λ n. bare_then (bare-test (leb n most) (over first) (h first)) λ _. bare-here λ place. bare_then (bare-many n lacks) λ items. bare-give _)

  -- ## Functions
  pub mends_forest : (n : ℕ) {r : Where → Reader (List Prototype)} {F : Where → Form (List Prototype)} (w : Where)
      → ((w : Where) → Exact (r w) (F w)) → ((w : Where) → Mends (r w)) → ((w : Where) → Bare (r w))
      → Mends (forest n r w)
  mends_forest zero w exact one bare = mends_give []
  mends_forest (suc n) w exact one bare =
      mends_then (exact w) (one w)
      (λ ps. mends_then (exact_forest n (after ps w) exact) (mends_forest n (after ps w) exact one bare) (λ more. mends_give _) (λ more. bare-give _))
      (λ ps. bare_then (bare-forest n (after ps w) bare) λ more. bare-give _)

  pub mends_body : {r : Where → Reader (List Prototype)} {F : Where → Form (List Prototype)}
      → ((w : Where) → Exact (r w) (F w)) → ((w : Where) → Mends (r w)) → ((w : Where) → Bare (r w)) → (w : Where)
      → Mends (body L r w)
  unfolding body
  mends_body exact one bare w =
      mends_here λ start.
      mends_then (exact_string limit) mends_string (λ spelt.
      mends_then exact_number mends_number (λ line_defined.
      mends_then exact_number mends_number (λ last_line_defined.
      mends_behind (exact_field 1) (outside-field 1) λ numparams.
      mends_behind (exact_field 1) (outside-field 1) λ is_vararg.
      mends_behind (exact_field 1) (outside-field 1) λ maxstacksize.
      mends_here λ first.
      mends_then exact_number mends_number (λ size.
      mends_behind (exact_at_most size L.max_instructions_per_proto (q.Instructions first)) (outside-test (leb size L.max_instructions_per_proto) (q.Instructions first) refl) λ _.
      mends_behind (exact_at_most (w.instructions + size) L.max_total_instructions (q.TotalInstructions first)) (outside-test (leb (w.instructions + size) L.max_total_instructions) (q.TotalInstructions first) refl) λ _.
      mends_here λ instructions_at.
      mends_behind (exact_many size (exact_field 4)) (outside-many size (outside-field 4)) λ instructions.
      mends_then (exact_counted_up_to L.max_constants_per_proto q.Constants (exact_constant limit)) (mends_counted_up_to L.max_constants_per_proto q.Constants (λ first. refl) (exact_constant limit) mends_constant (lacking_constant limit)) (λ constants.
      mends_then (exact_counted_up_to L.max_upvalues_per_proto q.Upvalues exact_upvalue) (mends_counted_up_to L.max_upvalues_per_proto q.Upvalues (λ first. refl) exact_upvalue (mends_outside outside-upvalue) (lacking_then lacking_byte _)) (λ upvalues.
      mends_here λ first.
      mends_then exact_number mends_number (λ protos.
      mends_behind (exact_at_most protos L.max_total_prototypes (q.Prototypes first)) (outside-test (leb protos L.max_total_prototypes) (q.Prototypes first) refl) λ _.
      mends_here λ protos-at.
      mends_then (exact_forest protos (within w (inherit spelt w.source) (length instructions)) exact) (mends_forest protos (within w (inherit spelt w.source) (length instructions)) exact one bare) (λ nested.
      mends_then exact_number mends_number (λ line-info-size.
      mends_here λ line-info-at.
      mends_behind (exact_run line-info-size) (outside-run line-info-size) λ line_info_lem.
      mends_then (exact_counted exact_anchor) (mends_counted exact_anchor mends_anchor (lacking_then lacking_number _)) (λ abs_line_info.
      mends_then (exact_counted (exact_local limit)) (mends_counted (exact_local limit) mends_local (lacking_then (lacking_then (lacking_string limit) _) _)) (λ loc_vars.
      mends_then (exact_counted (exact_string limit)) (mends_counted (exact_string limit) mends_string (lacking_string limit)) (λ upvalue_names_lem.
      mends_here λ end.
      mends_give _)
      (λ upvalue_names_lem. bare-here λ end. bare-give _))
      (λ loc_vars. bare_stops (lacking_then (lacking_then lacking_number _) _)))
      (λ abs_line_info. bare_stops (lacking_then (lacking_then lacking_number _) _)))
      (λ line-info-size. bare-here λ line-info-at. bare_then (bare-run line-info-size) λ line_info_lem. bare_stops (lacking_then (lacking_then lacking_number _) _)))
      (λ nested. bare_stops (lacking_then lacking_number _)))
      (λ protos. bare_then (bare-test (leb protos L.max_total_prototypes) (q.Prototypes first) refl) λ _. bare-here λ protos-at. bare_then (bare-forest protos (within w (inherit spelt w.source) (length instructions)) bare) λ nested. bare_stops (lacking_then lacking_number _)))
      (λ upvalues. bare-here λ first. bare_stops (lacking_then lacking_number _)))
      (λ constants. bare_stops (lacking_then (lacking_here λ first. lacking_then lacking_number _) _)))
      (λ size. bare_then (bare-test (leb size L.max_instructions_per_proto) (q.Instructions first) refl) λ _. bare_then (bare-test (leb (w.instructions + size) L.max_total_instructions) (q.TotalInstructions first) refl) λ _. bare-here λ instructions_at. bare_then (bare-many size lacking_word) λ instructions. bare_stops (lacking_then (lacking_here λ first. lacking_then lacking_number _) _)))
      (λ last_line_defined. bare_stops (lacking_then lacking_byte _)))
      (λ line_defined. bare_stops (lacking_then lacking_number _)))
      (λ spelt. bare_stops (lacking_then lacking_number _))

  pub mends_function : (left : ℕ) (w : Where) → Mends (function L left w)
  unfolding function
  mends_function zero w = mends_body {r = enter L zero} (λ w. exact_place λ place. exact_refuse _) (λ w. mends_here λ place. mends_outside (outside-refuse (q.NestingDepth place) refl)) (bare_enter L zero) w
  mends_function (suc left) w =
      mends_body {r = enter L (suc left)}
      (λ w. exact_place λ place. exact_then (exact_at_most w.number L.max_total_prototypes (q.TotalPrototypes place)) λ _. exact_function L left w)
      (λ w. mends_here λ place. mends_behind (exact_at_most w.number L.max_total_prototypes (q.TotalPrototypes place)) (outside-test (leb w.number L.max_total_prototypes) (q.TotalPrototypes place) refl) λ _. mends_function left w)
      (bare_enter L (suc left)) w

  -- ## Chunks
  pub mends : Mends (main L)
  mends =
      mends_then exact_header mends_header
      (λ headed. mends_behind (exact_field 1) (outside-field 1) λ forgotten. mends_then (exact_function L L.max_nesting_depth _) (mends_function L.max_nesting_depth _) (λ functions. mends_give _) (λ functions. bare-give _))
      (λ headed. bare_stops (lacking_then lacking_byte _))
