-- Refusal 2 is none of the stricter reading's (02, item 7): what it reads as an int is below 2^31 - 128, a string is within its limit, and the file is short, so that no place plus a length comes near 2^64. (In the ordinary reading the deltas' length alone can.)
--     Small r          from a place in a short file on, r does not refuse with 2; one law for each way to make a reader
--     strict_no_two    of whole chunks
-- Assumes nothing.
use mathlib.Core.Path.{◌≡◌, refl, sym, ◌∙◌, ap}
use mathlib.Core.Bool.{Bool, true, false, cond, ◌&&◌}
use mathlib.Core.List.{List, [], ◌∷◌}
use mathlib.Core.Option.{Option, none, some}
use Prim.Native.Nat.{ℕ, zero, suc, ◌+◌, ◌*◌, ◌-◌, ◌%◌, ◌^◌, ◌≤◌}
use native.Mathlib.Omega.{arith}
use lib.Dec.{eqb, leb, ltb}
use lib.ListN.{length, length-drop}
use borrow.Author.Tests.{ltb-true, leb-true, lt-ltb}
use Rattle.format.specs.declared.limits.ResourceLimits.{ResourceLimits}
use Rattle.format.specs.declared.refusal.Refusal.{Refusal}
use Rattle.format.specs.declared.refusal.Refusal.TheVariants.{VarintOverflow, StringBytes, ConstantTag, Instructions, TotalInstructions, Constants, Upvalues, Prototypes, NestingDepth, TotalPrototypes, LimitAboveCeiling, InputBytes, Signature, Version, LuacData, InstructionSize, LuaIntegerSize, LuaNumberSize, LuacInt, LuacNum, Format, IntOverflow, NullString}
use Rattle.format.specs.Refusals.{reported}
use Rattle.format.specs.Form.{Bytes}
use Rattle.format.specs.Limits.{MOST, within_ceilings}
use Rattle.format.specs.GrammarFields.{LuaString}
use Rattle.format.specs.GrammarHeader.{signature, luac_data, luac_int, luac_num}
use Rattle.format.specs.Reading.{Prototype}
use Rattle.format.specs.GrammarChunk.{inherit, Where, after, within, outermost, Loaded}
use Rattle.format.specs.Read.{Read, ok, refused, Reader, next, ◌>>=◌, give, here, refuse, test, short, piece, run, many}
use Rattle.format.specs.ReadFields.{field, byte, groups, number, content, string}
use Rattle.format.specs.ReadHeader.{same_bytes, expect, before_format, behind_format}
use Rattle.format.specs.ReadChunk.{always, upvalue, forest, refusal, outcome}
use Rattle.format_strict.specs.ReadStrict.{int, strict_counted, strict_counted_up_to, there, present, strict_tagged, strict_constant, strict_anchor, strict_local, strict_body, strict_function, strict_header, strict_main, strict_read}
use Rattle.format.proofs.ReadChunkLaws.{no_refusal}

never_true : false ≡ true → ⊥
never_true e = let z : ◌≡◌ {A = ℕ} 0 1 = cc in omega arith

-- farther than any file is long, and any length that is read
abbrev FAR : ℕ
FAR = 2 ^ 32

abbrev Not2 : Refusal → Type 0
Not2 q = (reported q).number ≡ 2 → ⊥

abbrev Mild : {A : Type 0} → Read A → Type 0
Mild (ok x to rest) = to + length rest ≤ FAR
Mild (refused q) = Not2 q

record Small {A : Type 0} (r : Reader A) : Type 0 where
  small : (at : ℕ) (s : Bytes) → at + length s ≤ FAR → Mild (r at s)

-- ## One law for each way to make a reader
gives : {A : Type 0} (x : A) → Small (give x)
gives x = record { small = λ at s h. h }

at_here : Small here
at_here = record { small = λ at s h. h }

refuses : {A : Type 0} (q : Refusal) → Not2 q → Small (refuse {A = A} q)
refuses q n = record { small = λ at s h. n }

tests : (b : Bool) (q : Refusal) → Not2 q → Small (test b q)
tests true q n = record { small = λ at s h. h }
tests false q n = record { small = λ at s h. n }

then : {A B : Type 0} {r : Reader A} {f : A → Reader B} → Small r → ((x : A) → Small (f x)) → Small (r >>= f)
then {A} {B} {r} {f} one two = record { small = λ at s h. go (r at s) (one.small at s h) }
  where
    go : (o : Read A) → Mild o → Mild (next o f)
    go (ok x to rest) m = (two x).small to rest m
    go (refused q) m = m

either : {A : Type 0} {r u : Reader A} (b : Bool) → Small r → Small u → Small (cond b r u)
either true one two = one
either false one two = two

-- too short: 1, since the place and the length are small
cut_short : (n at : ℕ) → n ≤ FAR → at ≤ FAR → Not2 (short n at)
cut_short n at l h = rw (lt-ltb (at + n) (2 ^ 64) (omega arith)) (λ e. omega (arith, e))

runs : (n : ℕ) → n ≤ FAR → Small (run n)
runs n l = record { small = λ at s h. go at s h (leb n (length s)) refl }
  where
    go : (at : ℕ) (s : Bytes) → at + length s ≤ FAR → (b : Bool) → leb n (length s) ≡ b → Mild (piece b n at s)
    go at s h true e = let there = leb-true n (length s) e in rw (length-drop n s) (omega (arith, there, h))
    go at s h false e = cut_short n at l (omega (arith, h))

manys : {A : Type 0} {r : Reader A} (n : ℕ) → Small r → Small (many n r)
manys zero one = gives []
manys (suc n) one = then one λ x. then (manys n one) λ xs. gives _

-- ## Fields
fields : (n : ℕ) → n ≤ FAR → Small (field n)
fields n l = then (runs n l) λ b. gives _

a_byte : Small byte
a_byte = fields 1 (omega arith)

small-groups : (high at : ℕ) (s : Bytes) → at + length s ≤ FAR → Mild (groups high at s)
small-groups high at [] h = cut_short 1 at (omega arith) (omega (arith, h))
small-groups high at (x ∷ s) h = by (ltb high (2 ^ 57 - 1)) (ltb x 128) (small-groups (high * 128 + x) (at + 1) s (omega (arith, h)))
  where
    by : (a b : Bool) → Mild (groups (high * 128 + x) (at + 1) s) → Mild (cond a (cond b (groups (high * 128 + x) (at + 1) s) (ok (high * 128 + x % 128) (at + 1) s)) (refused VarintOverflow))
    by true true m = m
    by true false m = omega (arith, h)
    by false b m = λ e. omega (arith, e)

a_number : Small number
a_number = record { small = λ at s h. small-groups 0 at s h }

an_int : Small int
an_int = then at_here λ first. then a_number λ n. then (tests (ltb n (2 ^ 31 - 128)) (IntOverflow first) (λ e. omega (arith, e))) λ _. gives n

-- as many bytes as an int says: that is a small number of them
int-run : {B : Type 0} {f : ℕ → ℕ → Bytes → Reader B} → ((n place : ℕ) (b : Bytes) → Small (f n place b)) → Small (int >>= λ n. here >>= λ place. run n >>= f n place)
int-run {B} {f} rest = record { small = λ at s h. go at (number at s) (a_number.small at s h) }
  where
    by : (at n to : ℕ) (s : Bytes) → to + length s ≤ FAR → (b : Bool) → ltb n (2 ^ 31 - 128) ≡ b → Mild (next (next (test b (IntOverflow at) to s) (λ _. give n)) (λ n. here >>= λ place. run n >>= f n place))
    by at n to s m true e = let few = ltb-true n (2 ^ 31 - 128) e in (then (runs n (omega (arith, few))) (rest n to)).small to s m
    by at n to s m false e = λ e. omega (arith, e)

    go : (at : ℕ) (o : Read ℕ) → Mild o → Mild (next (next o (λ n. test (ltb n (2 ^ 31 - 128)) (IntOverflow at) >>= λ _. give n)) (λ n. here >>= λ place. run n >>= f n place))
    go at (ok n to s) m = by at n to s m (ltb n (2 ^ 31 - 128)) refl
    go at (refused q) m = m

contents : (limit first size : ℕ) → limit ≤ FAR → Small (content limit first size)
contents limit first zero l = gives none
contents limit first (suc n) l = record { small = λ at s h. by at s h (leb n limit) refl }
  where
    by : (at : ℕ) (s : Bytes) → at + length s ≤ FAR → (b : Bool) → leb n limit ≡ b → Mild {A = Option LuaString} (next (test b (StringBytes first) at s) (λ _. here >>= λ place. run n >>= λ bytes. give (some (record { place = place; bytes = bytes }))))
    by at s h true e =
        let few = leb-true n limit e in
        let rest : Small {A = Option LuaString} (run n >>= λ bytes. give (some (record { place = at; bytes = bytes }))) = then (runs n (omega (arith, few, l))) λ bytes. gives _ in
        rest.small at s h
    by at s h false e = λ e. omega (arith, e)

strings : (limit : ℕ) → limit ≤ FAR → Small (string limit)
strings limit l = then at_here λ first. then a_number λ size. contents limit first size l

-- ## Lists behind their counts
counted : {A : Type 0} {r : Reader A} → Small r → Small (strict_counted r)
counted one = then an_int λ n. then at_here λ place. then (manys n one) λ items. gives _

up_to : {A : Type 0} {r : Reader A} (limit : ℕ) (above : ℕ → Refusal) → ((at : ℕ) → Not2 (above at)) → Small r → Small (strict_counted_up_to limit above r)
up_to limit above n one = then at_here λ first. then an_int λ k. then (tests (leb k limit) (above first) (n first)) λ _. then at_here λ place. then (manys k one) λ items. gives _

-- ## Entries
is-there : (first : ℕ) (t : Option LuaString) → Small (there first t)
is-there first none = refuses (NullString first) (λ e. omega (arith, e))
is-there first (some t) = gives t

presents : (limit : ℕ) → limit ≤ FAR → Small (present limit)
presents limit l = then at_here λ first. then (strings limit l) λ t. is-there first t

tagged : (limit place tag : ℕ) → limit ≤ FAR → Small (strict_tagged limit place tag)
tagged limit place tag l =
    either (eqb tag 0) (gives _)
    (either (eqb tag 1) (gives _)
    (either (eqb tag 17) (gives _)
    (either (eqb tag 3) (then (fields 8 (omega arith)) λ n. gives _)
    (either (eqb tag 19) (then (fields 8 (omega arith)) λ n. gives _)
    (either (eqb tag 4) (then (presents limit l) λ t. gives _)
    (either (eqb tag 20) (then (presents limit l) λ t. gives _)
    (refuses (ConstantTag place) (λ e. omega (arith, e)))))))))

constants : (limit : ℕ) → limit ≤ FAR → Small (strict_constant limit)
constants limit l = then at_here λ place. then a_byte λ tag. tagged limit place tag l

upvalues : Small upvalue
upvalues = then a_byte λ _. then a_byte λ _. then a_byte λ _. gives _

anchors : Small strict_anchor
anchors = then an_int λ pc. then an_int λ line. gives _

names : (limit : ℕ) (instead : Bytes) → limit ≤ FAR → Small (always limit instead)
names limit instead l = then (strings limit l) λ t. then at_here λ place. gives _

locals : (limit : ℕ) → limit ≤ FAR → Small (strict_local limit)
locals limit l = then (names limit (63 ∷ []) l) λ name. then an_int λ startpc. then an_int λ endpc. gives _

-- ## Functions
forests : (n : ℕ) {r : Where → Reader (List Prototype)} (w : Where) → ((w : Where) → Small (r w)) → Small (forest n r w)
forests zero w one = gives []
forests (suc n) w one = then (one w) λ ps. then (forests n (after ps w) one) λ more. gives _

bodies : (L : ResourceLimits) → L.max_string_bytes ≤ FAR → {r : Where → Reader (List Prototype)} → ((w : Where) → Small (r w)) → (w : Where) → Small (strict_body L r w)
unfolding strict_body
bodies L l one w =
    then at_here λ start.
    then (strings L.max_string_bytes l) λ spelt.
    then an_int λ line_defined.
    then an_int λ last_line_defined.
    then a_byte λ numparams.
    then a_byte λ is_vararg.
    then a_byte λ maxstacksize.
    then at_here λ first.
    then an_int λ size.
    then (tests (leb size L.max_instructions_per_proto) (Instructions first) (λ e. omega (arith, e))) λ _.
    then (tests (leb (w.instructions + size) L.max_total_instructions) (TotalInstructions first) (λ e. omega (arith, e))) λ _.
    then at_here λ instructions_at.
    then (manys size (fields 4 (omega arith))) λ instructions.
    then (up_to L.max_constants_per_proto Constants (λ at e. omega (arith, e)) (constants L.max_string_bytes l)) λ constants.
    then (up_to L.max_upvalues_per_proto Upvalues (λ at e. omega (arith, e)) upvalues) λ upvalues.
    then at_here λ first.
    then an_int λ protos.
    then (tests (leb protos L.max_total_prototypes) (Prototypes first) (λ e. omega (arith, e))) λ _.
    then at_here λ protos-at.
    then (forests protos (within w (inherit spelt w.source) (length instructions)) one) λ nested.
    int-run λ line-info-size line-info-at line_info_lem.
    then (counted anchors) λ abs_line_info.
    then (counted (locals L.max_string_bytes l)) λ loc_vars.
    then (counted (strings L.max_string_bytes l)) λ upvalue_names_lem.
    then at_here λ end.
    gives _

functions : (L : ResourceLimits) → L.max_string_bytes ≤ FAR → (left : ℕ) (w : Where) → Small (strict_function L left w)
unfolding strict_function
functions L l zero w = bodies L l (λ w. then at_here λ place. refuses (NestingDepth place) (λ e. omega (arith, e))) w
functions L l (suc left) w = bodies L l (λ w. then at_here λ place. then (tests (leb w.number L.max_total_prototypes) (TotalPrototypes place) (λ e. omega (arith, e))) λ _. functions L l left w) w

-- ## Chunks
expects : (bytes : Bytes) (q : ℕ → Refusal) → length bytes ≤ FAR → ((at : ℕ) → Not2 (q at)) → Small (expect bytes q)
expects bytes q l n = then at_here λ place. then (runs (length bytes) l) λ b. tests (same_bytes b bytes) (q place) (n place)

before_format_lem : Small before_format
before_format_lem = then (expects signature Signature (omega arith) (λ at e. omega (arith, e))) λ _. expects (0x54 ∷ []) Version (omega arith) (λ at e. omega (arith, e))

behind_format_lem : Small behind_format
behind_format_lem =
    then (expects luac_data LuacData (omega arith) (λ at e. omega (arith, e))) λ _.
    then (expects (4 ∷ []) InstructionSize (omega arith) (λ at e. omega (arith, e))) λ _.
    then (expects (8 ∷ []) LuaIntegerSize (omega arith) (λ at e. omega (arith, e))) λ _.
    then (expects (8 ∷ []) LuaNumberSize (omega arith) (λ at e. omega (arith, e))) λ _.
    then (expects luac_int LuacInt (omega arith) (λ at e. omega (arith, e))) λ _.
    expects luac_num LuacNum (omega arith) (λ at e. omega (arith, e))

headers : Small strict_header
headers = then before_format_lem λ _. then (expects (0 ∷ []) Format (omega arith) (λ at e. omega (arith, e))) λ _. then behind_format_lem λ _. gives _

mains : (L : ResourceLimits) → L.max_string_bytes ≤ FAR → Small (strict_main L)
mains L l = then headers λ headed. then a_byte λ forgotten. then (functions L l L.max_nesting_depth outermost) λ functions. gives _

-- of the nine tests of the limits: those of the input and of strings
two_tests : (a b c d e f g h i : Bool) → (a && b && c && d && e && f && g && h && i) ≡ true → (a ≡ true) × (h ≡ true)
two_tests true true true true true true true true i z = (refl, refl)
two_tests true true true true true true true false i z = absurd (never_true z)
two_tests true true true true true true false h i z = absurd (never_true z)
two_tests true true true true true false g h i z = absurd (never_true z)
two_tests true true true true false f g h i z = absurd (never_true z)
two_tests true true true false e f g h i z = absurd (never_true z)
two_tests true true false d e f g h i z = absurd (never_true z)
two_tests true false c d e f g h i z = absurd (never_true z)
two_tests false b c d e f g h i z = absurd (never_true z)

pub strict_no_two : (L : ResourceLimits) (s : Bytes) (q : Refusal) → strict_read L s ≡ refusal q → (reported q).number ≡ 2 → ⊥
unfolding strict_read
strict_no_two L s q = go (within_ceilings L) refl (leb (length s) L.max_input_bytes) refl
  where
    by : (o : Read Loaded) → Mild o → outcome L o ≡ refusal q → (reported q).number ≡ 2 → ⊥
    by (ok m to rest) a e n = no_refusal (sym e)
    by (refused p) a e n = let is : p ≡ q = cc in a (rw is n)

    go : (within : Bool) → within_ceilings L ≡ within → (fits : Bool) → leb (length s) L.max_input_bytes ≡ fits → cond within (cond fits (outcome L (strict_main L 0 s)) (refusal InputBytes)) (refusal LimitAboveCeiling) ≡ refusal q → (reported q).number ≡ 2 → ⊥
    go true w true f e n =
        let two = two_tests _ _ _ _ _ _ _ _ _ w in
        let input = leb-true L.max_input_bytes MOST two.0 in
        let text = leb-true L.max_string_bytes MOST two.1 in
        let file = leb-true (length s) L.max_input_bytes f in
        by (strict_main L 0 s) ((mains L (omega (arith, text))).small 0 s (omega (arith, input, file))) e n
    go true w false f e n = let is : InputBytes ≡ q = cc in let z : (reported InputBytes).number ≡ 2 = ap (λ q. (reported q).number) is ∙ n in omega (arith, z)
    go false w fits f e n = let is : LimitAboveCeiling ≡ q = cc in let z : (reported LimitAboveCeiling).number ≡ 2 = ap (λ q. (reported q).number) is ∙ n in omega (arith, z)
