-- Where a refusal with 4 to 11, or 31, stands: at its own field's place in the header (01, 'header.rs'; 02, item 7), and
-- nowhere else. So 8 and 9, which miss the same byte, are not named for each other, nor is 31 for a tag.
--     field_place n     the place of the field that the number n names
--     of_header p       4 to 11, or 31
--     Right p          p has that place
--     header-places    of `read`, with which every call on a chunk begins; strict_header-places: of `strict_read`
-- By two laws for each way to make a reader: `Shuns r`, that it never refuses so, and `Placed start behind r`, that
-- from the place `start` on it takes bytes up to the place `behind`, and refuses so rightly.
-- Assumes nothing.
use Rattle.std.specs.Prelude.{Some}
use mathlib.Core.Path.{◌≡◌, refl, sym, ◌∙◌, ap, subst}
use mathlib.Core.Bool.{Bool, true, false, cond, ◌&&◌, ◌||◌}
use mathlib.Core.List.{List, [], ◌∷◌}
use mathlib.Core.Option.{Option, none, some}
use Prim.Native.Nat.{ℕ, zero, suc, ◌+◌, ◌-◌, ◌*◌, ◌%◌, ◌^◌}
use native.Mathlib.Omega.{arith}
use lib.Dec.{leb, ltb, eqb}
use lib.ListN.{length}
use Rattle.format.specs.declared.limits.ResourceLimits.{ResourceLimits}
use Rattle.format.specs.declared.refusal.Refusal.{Refusal}
use Rattle.format.specs.declared.refusal.Refusal.TheVariants as q
use Rattle.format.specs.Form.{Bytes}
use Rattle.format.specs.Limits.{within_ceilings}
use Rattle.format.specs.Refusals.{reported}
use Rattle.format.specs.GrammarFields.{LuaString}
use Rattle.format.specs.declared.entry.AbsLineInfo.{AbsLineInfo}
use Rattle.format.specs.Reading.{ConstantValue, LocalVar, Prototype}
use Rattle.format.specs.GrammarHeader.{Headed, signature, luac_data, luac_int, luac_num, header_of, format_warnings}
use Rattle.format.specs.GrammarChunk.{Listed, inherit, Where, after, within, Loaded}
use Rattle.format.specs.Read.{Read, ok, refused, Reader, next, ◌>>=◌, ◌>>◌, give, here, refuse, test, at_most, piece, run, many}
use Rattle.format.specs.ReadFields.{field, byte, groups, number, content, string}
use Rattle.format.specs.ReadHeader.{same_bytes, expect, before_format, behind_format, header}
use Rattle.format.specs.ReadChunk.{always, constant, upvalue, anchor, local, forest, body, function, main, refusal, outcome, read}
use Rattle.format_strict.specs.ReadStrict.{int, there, present, strict_constant, strict_anchor, strict_local, strict_body, strict_function, strict_header, strict_main, strict_read}
use Rattle.demands.proofs.Early.{never, no, was}
use Rattle.demands.proofs.AtOneByte.{enter}
use Rattle.demands.proofs.Fault.{clash}
use Rattle.demands.proofs.StrictBlame.{strict_enter}
use Rattle.demands.proofs.Bodies.{body_by}

abbrev pub field_place : ℕ → ℕ
field_place n =
    cond (eqb n 4) 0
    (cond (eqb n 5) 4
    (cond (eqb n 31) 5
    (cond (eqb n 6) 6
    (cond (eqb n 7) 12
    (cond (eqb n 8) 13
    (cond (eqb n 9) 14
    (cond (eqb n 10) 15
    23)))))))

abbrev pub of_header : Refusal → Bool
of_header p = (leb 4 (reported p).number && leb (reported p).number 11) || eqb (reported p).number 31

abbrev pub Right : Refusal → Type 0
Right p = (reported p).place ≡ Some (field_place (reported p).number)

-- ## Readers that never refuse so
record Shuns {A : Type 0} (r : Reader A) : Type 0 where
  other : (at : ℕ) (s : Bytes) (p : Refusal) → r at s ≡ refused p → of_header p ≡ false

is_other : {A : Type 0} {p p' : Refusal} → ◌≡◌ {A = Read A} (refused p) (refused p') → of_header p ≡ false → of_header p' ≡ false
is_other {A} {p} e h = let k : p ≡ _ = was e in subst (λ p. of_header p ≡ false) k h

shuns_give : {A : Type 0} (x : A) → Shuns (give x)
shuns_give x = record { other = λ at s p e. no e }

shuns_refuse : {A : Type 0} (p : Refusal) → of_header p ≡ false → Shuns {A = A} (refuse p)
shuns_refuse p h = record { other = λ at s p' e. is_other e h }

shuns_here : {B : Type 0} {f : ℕ → Reader B} → ((place : ℕ) → Shuns (f place)) → Shuns (here >>= f)
shuns_here two = record { other = λ at s p e. (two at).other at s p e }

shuns_then : {A B : Type 0} {r : Reader A} {f : A → Reader B} → Shuns r → ((x : A) → Shuns (f x)) → Shuns (r >>= f)
shuns_then {A} {B} {r} {f} one two = record { other = λ at s p e. go at s p (r at s) refl e }
  where
    go : (at : ℕ) (s : Bytes) (p : Refusal) (o : Read A) → r at s ≡ o → next o f ≡ refused p → of_header p ≡ false
    go at s p (ok x to rest) is e = (two x).other to rest p e
    go at s p (refused p') is e = is_other e (one.other at s p' is)

shuns_pick : {A : Type 0} {r s : Reader A} (b : Bool) → Shuns r → Shuns s → Shuns (cond b r s)
shuns_pick true one two = one
shuns_pick false one two = two

shuns_test : (b : Bool) (p : Refusal) → of_header p ≡ false → Shuns (test b p)
shuns_test true p h = shuns_give tt
shuns_test false p h = shuns_refuse p h

short_other : (b : Bool) (at : ℕ) → of_header (cond b (q.Truncated at) q.Overflow) ≡ false
short_other true at = refl
short_other false at = refl

shuns_run : (n : ℕ) → Shuns (run n)
shuns_run n = record { other = λ at s p e. go at s p (leb n (length s)) e }
  where
    go : (at : ℕ) (s : Bytes) (p : Refusal) (b : Bool) → piece b n at s ≡ refused p → of_header p ≡ false
    go at s p true e = no e
    go at s p false e = is_other e (short_other (ltb (at + n) (2 ^ 64)) at)

shuns_field : (n : ℕ) → Shuns (field n)
shuns_field n = shuns_then (shuns_run n) λ bytes. shuns_give _

groups_other : (high at : ℕ) (s : Bytes) (p : Refusal) → groups high at s ≡ refused p → of_header p ≡ false
groups_other high at [] p e = is_other e (short_other (ltb (at + 1) (2 ^ 64)) at)
groups_other high at (x ∷ s) p e =
    go (λ e. groups_other (high * 128 + x) (at + 1) s p e) (ltb high (2 ^ 57 - 1)) (ltb x 128) e
  where
    go : (groups (high * 128 + x) (at + 1) s ≡ refused p → of_header p ≡ false) → (fits low : Bool)
        → cond fits (cond low (groups (high * 128 + x) (at + 1) s) (ok (high * 128 + x % 128) (at + 1) s)) (refused q.VarintOverflow) ≡ refused p
        → of_header p ≡ false
    go on true true e = on e
    go on true false e = no e
    go on false low e = is_other {p = q.VarintOverflow} e refl

shuns_number : Shuns number
shuns_number = record { other = λ at s p e. groups_other 0 at s p e }

shuns_many : {A : Type 0} {r : Reader A} (n : ℕ) → Shuns r → Shuns (many n r)
shuns_many zero one = shuns_give []
shuns_many (suc n) one = shuns_then one λ x. shuns_then (shuns_many n one) λ xs. shuns_give _

shuns_string : (limit : ℕ) → Shuns (string limit)
shuns_string limit = shuns_here λ first. shuns_then shuns_number λ size. by first size
  where
    by : (first size : ℕ) → Shuns (content limit first size)
    by first zero = shuns_give _
    by first (suc n) =
        shuns_then (shuns_test (leb n limit) (q.StringBytes first) refl) λ _. shuns_here λ place. shuns_then (shuns_run n) λ bytes. shuns_give _

shuns_always : (limit : ℕ) (instead : Bytes) → Shuns (always limit instead)
shuns_always limit instead = shuns_then (shuns_string limit) λ t. shuns_here λ place. shuns_give _

-- a constant, by how its strings are read
module _ {S : Type 0} (r : Reader S) (one : Shuns r) where
  shuns_tagged : {A : Type 0} (place tag : ℕ) (a b c : A) (d e : ℕ → A) (f g : S → A) → Shuns
      (cond (eqb tag 0) (give a) (cond (eqb tag 1) (give b) (cond (eqb tag 17) (give c)
      (cond (eqb tag 3) (field 8 >>= λ n. give (d n)) (cond (eqb tag 19) (field 8 >>= λ n. give (e n))
      (cond (eqb tag 4) (r >>= λ t. give (f t)) (cond (eqb tag 20) (r >>= λ t. give (g t)) (refuse (q.ConstantTag place)))))))))
  shuns_tagged place tag a b c d e f g =
      shuns_pick (eqb tag 0) (shuns_give _)
      (shuns_pick (eqb tag 1) (shuns_give _)
      (shuns_pick (eqb tag 17) (shuns_give _)
      (shuns_pick (eqb tag 3) (shuns_then (shuns_field 8) λ n. shuns_give _)
      (shuns_pick (eqb tag 19) (shuns_then (shuns_field 8) λ n. shuns_give _)
      (shuns_pick (eqb tag 4) (shuns_then one λ t. shuns_give _)
      (shuns_pick (eqb tag 20) (shuns_then one λ t. shuns_give _) (shuns_refuse (q.ConstantTag place) refl)))))))

shuns_constant : (limit : ℕ) → Shuns (constant limit)
shuns_constant limit =
    shuns_here λ place. shuns_then (shuns_field 1) λ tag. shuns_tagged (always limit []) (shuns_always limit []) place tag _ _ _ _ _ _ _

shuns_upvalue : Shuns upvalue
shuns_upvalue =
    shuns_then (shuns_field 1) λ instack. shuns_then (shuns_field 1) λ idx. shuns_then (shuns_field 1) λ kind. shuns_give _

shuns_forest : (n : ℕ) {r : Where → Reader (List Prototype)} (w : Where) → ((w : Where) → Shuns (r w))
    → Shuns (forest n r w)
shuns_forest zero w one = shuns_give []
shuns_forest (suc n) w one = shuns_then (one w) λ ps. shuns_then (shuns_forest n (after ps w) one) λ more. shuns_give _

module _ (L : ResourceLimits) where
  abbrev limit : ℕ
  limit = L.max_string_bytes

  -- ## Functions of both readings (Bodies.antt)
  module _ (num : Reader ℕ) (con : Reader ConstantValue) (anc : Reader AbsLineInfo) (loc : Reader LocalVar)
      (one-num : Shuns num) (one-con : Shuns con) (one-anc : Shuns anc) (one-loc : Shuns loc) where
    shuns_listed : {A : Type 0} {r : Reader A} → Shuns r
        → Shuns (num >>= λ k. here >>= λ place. many k r >>= λ items. give {A = Listed A} (record { place = place; items = items }))
    shuns_listed one = shuns_then one-num λ k. shuns_here λ place. shuns_then (shuns_many k one) λ items. shuns_give _

    shuns_listed_up_to : {A : Type 0} {r : Reader A} (most : ℕ) (over : ℕ → Refusal)
        → ((first : ℕ) → of_header (over first) ≡ false) → Shuns r
        → Shuns (here >>= λ first. num >>= λ k. at_most k most (over first) >>= λ _. here >>= λ place. many k r >>= λ items. give {A = Listed A} (record { place = place; items = items }))
    shuns_listed_up_to most over h one =
        shuns_here λ first. shuns_then one-num λ k. shuns_then (shuns_test (leb k most) (over first) (h first)) λ _.
        shuns_here λ place. shuns_then (shuns_many k one) λ items. shuns_give _

    shuns_body : {r : Where → Reader (List Prototype)} → ((w : Where) → Shuns (r w)) → (w : Where)
        → Shuns (body_by num con anc loc L r w)
    shuns_body one w =
        shuns_here λ start.
        shuns_then (shuns_string limit) λ spelt.
        shuns_then one-num λ line_defined.
        shuns_then one-num λ last_line_defined.
        shuns_then (shuns_field 1) λ numparams.
        shuns_then (shuns_field 1) λ is_vararg.
        shuns_then (shuns_field 1) λ maxstacksize.
        shuns_here λ first.
        shuns_then one-num λ size.
        shuns_then (shuns_test (leb size L.max_instructions_per_proto) (q.Instructions first) refl) λ _.
        shuns_then (shuns_test (leb (w.instructions + size) L.max_total_instructions) (q.TotalInstructions first) refl) λ _.
        shuns_here λ instructions_at.
        shuns_then (shuns_many size (shuns_field 4)) λ instructions.
        shuns_then (shuns_listed_up_to L.max_constants_per_proto q.Constants (λ first. refl) one-con) λ constants.
        shuns_then (shuns_listed_up_to L.max_upvalues_per_proto q.Upvalues (λ first. refl) shuns_upvalue) λ upvalues.
        shuns_here λ first.
        shuns_then one-num λ protos.
        shuns_then (shuns_test (leb protos L.max_total_prototypes) (q.Prototypes first) refl) λ _.
        shuns_here λ protos-at.
        shuns_then (shuns_forest protos (within w (inherit spelt w.source) (length instructions)) one) λ nested.
        shuns_then one-num λ line-info-size.
        shuns_here λ line-info-at.
        shuns_then (shuns_run line-info-size) λ line_info_lem.
        shuns_then (shuns_listed one-anc) λ abs_line_info.
        shuns_then (shuns_listed one-loc) λ loc_vars.
        shuns_then (shuns_listed (shuns_string limit)) λ upvalue_names_lem.
        shuns_here λ end.
        shuns_give _

  shuns_entered : (w : Where) {r : Reader (List Prototype)} → Shuns r
      → Shuns (here >>= λ place. at_most w.number L.max_total_prototypes (q.TotalPrototypes place) >>= λ _. r)
  shuns_entered w one =
      shuns_here λ place. shuns_then (shuns_test (leb w.number L.max_total_prototypes) (q.TotalPrototypes place) refl) λ _. one

  shuns_deepest : {A : Type 0} → Shuns {A = A} (here >>= λ place. refuse (q.NestingDepth place))
  shuns_deepest = shuns_here λ place. shuns_refuse (q.NestingDepth place) refl

  -- ## The ordinary reading
  shuns_local : Shuns (local limit)
  shuns_local =
      shuns_then (shuns_always limit (63 ∷ [])) λ name. shuns_then shuns_number λ startpc. shuns_then shuns_number λ endpc. shuns_give _

  shuns_anchor : Shuns anchor
  shuns_anchor = shuns_then shuns_number λ pc. shuns_then shuns_number λ line. shuns_give _

  shuns_function : (left : ℕ) (w : Where) → Shuns (function L left w)
  unfolding function body
  shuns_function zero w = shuns_body number (constant limit) anchor (local limit) shuns_number (shuns_constant limit) shuns_anchor shuns_local {r = enter L zero} (λ w. shuns_deepest) w
  shuns_function (suc left) w = shuns_body number (constant limit) anchor (local limit) shuns_number (shuns_constant limit) shuns_anchor shuns_local {r = enter L (suc left)} (λ w. shuns_entered w (shuns_function left w)) w

  -- ## The stricter reading
  shuns_int : Shuns int
  shuns_int =
      shuns_here λ first. shuns_then shuns_number λ n. shuns_then (shuns_test (ltb n (2 ^ 31 - 128)) (q.IntOverflow first) refl) λ _. shuns_give _

  shuns_present : Shuns (present limit)
  shuns_present = shuns_here λ first. shuns_then (shuns_string limit) λ t. by first t
    where
      by : (first : ℕ) (t : Option LuaString) → Shuns (there first t)
      by first none = shuns_refuse (q.NullString first) refl
      by first (some t) = shuns_give t

  shuns_strict_constant : Shuns (strict_constant limit)
  shuns_strict_constant =
      shuns_here λ place. shuns_then (shuns_field 1) λ tag. shuns_tagged (present limit) shuns_present place tag _ _ _ _ _ _ _

  shuns_strict_anchor : Shuns strict_anchor
  shuns_strict_anchor = shuns_then shuns_int λ pc. shuns_then shuns_int λ line. shuns_give _

  shuns_strict_local : Shuns (strict_local limit)
  shuns_strict_local =
      shuns_then (shuns_always limit (63 ∷ [])) λ name. shuns_then shuns_int λ startpc. shuns_then shuns_int λ endpc. shuns_give _

  shuns_strict_function : (left : ℕ) (w : Where) → Shuns (strict_function L left w)
  unfolding strict_function strict_body
  shuns_strict_function zero w = shuns_body int (strict_constant limit) strict_anchor (strict_local limit) shuns_int shuns_strict_constant shuns_strict_anchor shuns_strict_local {r = strict_enter L zero} (λ w. shuns_deepest) w
  shuns_strict_function (suc left) w = shuns_body int (strict_constant limit) strict_anchor (strict_local limit) shuns_int shuns_strict_constant shuns_strict_anchor shuns_strict_local {r = strict_enter L (suc left)} (λ w. shuns_entered w (shuns_strict_function left w)) w

-- ## The header
record Placed {A : Type 0} (start behind : ℕ) (r : Reader A) : Type 0 where
  right : (s : Bytes) (p : Refusal) → r start s ≡ refused p → of_header p ≡ true → Right p
  ends : (s : Bytes) (x : A) (to : ℕ) (rest : Bytes) → r start s ≡ ok x to rest → to ≡ behind

placed_then : {A B : Type 0} {start mid behind : ℕ} {r : Reader A} {f : A → Reader B} → Placed start mid r
    → ((x : A) → Placed mid behind (f x)) → Placed start behind (r >>= f)
placed_then {A} {B} {start} {mid} {behind} {r} {f} one two = record { right = λ s p e h. off s p h (r start s) refl e; ends = λ s x to rest e. on s x to rest (r start s) refl e }
  where
    off : (s : Bytes) (p : Refusal) → of_header p ≡ true → (o : Read A) → r start s ≡ o → next o f ≡ refused p → Right p
    off s p h (ok y to u) is e = (two y).right u p (subst (λ t. f y t u ≡ refused p) (one.ends s y to u is) e) h
    off s p h (refused p') is e = one.right s p (is ∙ ap refused (was e)) h

    on : (s : Bytes) (x : B) (to : ℕ) (rest : Bytes) (o : Read A) → r start s ≡ o → next o f ≡ ok x to rest
        → to ≡ behind
    on s x to rest (ok y to' u) is e =
        (two y).ends u x to rest (subst (λ t. f y t u ≡ ok x to rest) (one.ends s y to' u is) e)
    on s x to rest (refused p) is e = never e

placed-here : {B : Type 0} {start behind : ℕ} {f : ℕ → Reader B}
    → ((place : ℕ) → place ≡ start → Placed start behind (f place)) → Placed start behind (here >>= f)
placed-here {B} {start} two = record { right = λ s p e h. (two start refl).right s p e h; ends = λ s x to rest e. (two start refl).ends s x to rest e }

placed-give : {A : Type 0} (start : ℕ) (x : A) → Placed start start (give x)
placed-give start x = record { right = λ s p e h. no e; ends = λ s y to rest e. (let is : start ≡ to = cc in sym is) }

placed-run : (start n : ℕ) → Placed start (start + n) (run n)
placed-run start n = record { right = λ s p e h. clash h ((shuns_run n).other start s p e); ends = λ s x to rest e. go s x to rest (leb n (length s)) e }
  where
    go : (s x : Bytes) (to : ℕ) (rest : Bytes) (b : Bool) → piece b n start s ≡ ok x to rest → to ≡ start + n
    go s x to rest true e = let is : start + n ≡ to = cc in sym is
    go s x to rest false e = never e

placed-field : (start n : ℕ) → Placed start (start + n) (field n)
placed-field start n = placed_then (placed-run start n) λ bytes. placed-give (start + n) _

placed-test : (start : ℕ) (b : Bool) (p : Refusal) → Right p → Placed start start (test b p)
placed-test start true p h = placed-give start tt
placed-test start false p h = record { right = λ s p' e k. (let is : p ≡ p' = was e in subst Right is h); ends = λ s x to rest e. never e }

placed-expect : (start : ℕ) (bytes : Bytes) (over : ℕ → Refusal) → Right (over start)
    → Placed start (start + length bytes) (expect bytes over)
placed-expect start bytes over h =
    placed-here λ place at. placed_then (placed-run start (length bytes)) λ b. placed-test (start + length bytes) (same_bytes b bytes) (over place) (subst (λ x. Right (over x)) (sym at) h)

placed-before : Placed 0 5 before_format
placed-before = placed_then (placed-expect 0 signature q.Signature refl) λ _. placed-expect 4 (0x54 ∷ []) q.Version refl

placed-behind : Placed 6 31 behind_format
placed-behind =
    placed_then (placed-expect 6 luac_data q.LuacData refl) λ _.
    placed_then (placed-expect 12 (4 ∷ []) q.InstructionSize refl) λ _.
    placed_then (placed-expect 13 (8 ∷ []) q.LuaIntegerSize refl) λ _.
    placed_then (placed-expect 14 (8 ∷ []) q.LuaNumberSize refl) λ _.
    placed_then (placed-expect 15 luac_int q.LuacInt refl) λ _.
    placed-expect 23 luac_num q.LuacNum refl

-- the format byte, which stands at `place`, and what follows it
abbrev from_format : ℕ → Reader Headed
from_format place = do
  format ← byte
  behind_format
  give (record { header = header_of format; warnings = format_warnings place format })

placed_format : (place : ℕ) → Placed 5 31 (from_format place)
placed_format place = placed_then (placed-field 5 1) λ format. placed_then placed-behind λ _. placed-give 31 _

placed-header : Placed 0 31 header
placed-header = placed_then placed-before λ _. placed-here {f = from_format} (λ place at. placed_format place)

placed-strict_header : Placed 0 31 strict_header
placed-strict_header =
    placed_then placed-before λ _. placed_then (placed-expect 5 (0 ∷ []) q.Format refl) λ _. placed_then placed-behind λ _. placed-give 31 _

-- ## Chunks
rightly : {A B : Type 0} {start behind : ℕ} {r : Reader A} {f : A → Reader B} → Placed start behind r
    → ((x : A) → Shuns (f x)) → (s : Bytes) (p : Refusal) → (r >>= f) start s ≡ refused p → of_header p ≡ true → Right p
rightly {A} {B} {start} {behind} {r} {f} one two s p e h = go (r start s) refl e
  where
    go : (o : Read A) → r start s ≡ o → next o f ≡ refused p → Right p
    go (ok y mid u) is e = clash h ((two y).other mid u p e)
    go (refused p') is e = one.right s p (is ∙ ap refused (was e)) h

-- 21 and 22 first
module _ (L : ResourceLimits) (r : Reader Loaded) (s : Bytes) (p : Refusal) (of-file : (p : Refusal) → r 0 s ≡ refused p → of_header p ≡ true → Right p) where
  placed_by : cond (within_ceilings L) (cond (leb (length s) L.max_input_bytes) (outcome L (r 0 s)) (refusal q.InputBytes)) (refusal q.LimitAboveCeiling) ≡ refusal p → of_header p ≡ true → Right p
  placed_by e h = go (within_ceilings L) (leb (length s) L.max_input_bytes) (r 0 s) refl e
    where
      go : (within short : Bool) (m : Read Loaded) → r 0 s ≡ m
          → cond within (cond short (outcome L m) (refusal q.InputBytes)) (refusal q.LimitAboveCeiling) ≡ refusal p
          → Right p
      go true true (ok m to rest) is e = absurd (let z : ◌≡◌ {A = ℕ} 0 1 = cc in omega arith)
      go true true (refused p') is e = let same : p' ≡ p = cc in of-file p (is ∙ ap refused same) h
      go true false m is e = let same : q.InputBytes ≡ p = cc in clash h (subst (λ p. of_header p ≡ false) same refl)
      go false short m is e =
          let same : q.LimitAboveCeiling ≡ p = cc in clash h (subst (λ p. of_header p ≡ false) same refl)

module _ (L : ResourceLimits) (s : Bytes) (p : Refusal) where
  pub header-places : read L s ≡ refusal p → of_header p ≡ true → Right p
  unfolding read
  header-places = placed_by L (main L) s p λ p. rightly placed-header (λ headed. shuns_then (shuns_field 1) λ forgotten. shuns_then (shuns_function L L.max_nesting_depth _) λ functions. shuns_give _) s p

  pub strict_header-places : strict_read L s ≡ refusal p → of_header p ≡ true → Right p
  unfolding strict_read
  strict_header-places =
      placed_by L (strict_main L) s p λ p. rightly placed-strict_header (λ headed. shuns_then (shuns_field 1) λ forgotten. shuns_then (shuns_strict_function L L.max_nesting_depth _) λ functions. shuns_give _) s p
