-- Lua's own loader (specs/LundumpFunctions.antt) as a function: for each of its forms a reader that reads exactly it. So whether a chunk is loaded, and as what, is computed.
--     Takes F              a reader, and that it reads exactly F
--     take_undump left     the whole loader, for functions that nest less than `left` deep
--     loads left chunk     what is loaded from all bytes of a chunk, if it is
--     loads_exactly        `loads left chunk ≡ some m` exactly where `Undump left 0 chunk m`
--     never_loads          where it is none, the chunk is not loaded as anything
-- Assumes nothing.
use mathlib.Core.Path.{◌≡◌, refl, sym, ◌∙◌}
use mathlib.Core.Logic.{◌↔◌}
use mathlib.Core.Bool.{Bool, true, false, ◌&&◌, cond}
use mathlib.Core.List.{List, [], ◌∷◌, ◌++◌, append-nil}
use mathlib.Core.Option.{Option, none, some}
use Prim.Native.Nat.{ℕ, zero, suc, ◌+◌, ◌-◌}
use native.Mathlib.Omega.{arith}
use lib.Dec.{T, ltb, eqb, ltb→lt, lt→ltb}
use lib.ListN.{length, take}
use lib.Seq.{take_at}
use Rattle.format.specs.declared.refusal.Refusal.TheVariants.{Overflow}
use Rattle.format.specs.Form.{Bytes, Below, Form, Then, Is, Here, Nothing, When, Run, Spelt, Many}
use Rattle.format.specs.GrammarFields.{Field, LuaString}
use Rattle.format.specs.Reading.{Prototype}
use Rattle.format.specs.GrammarChunk.{inherit, Where, after, within, Loaded, outermost}
use Rattle.format_lua.specs.LundumpFunctions.{
  LoadSize,
  LoadInt,
  Content,
  LoadStringN,
  NotNull,
  LoadString,
  LoadCounted,
  LoadConstant,
  LoadUpvalue,
  LoadProtos,
  LoadAbsLineInfo,
  LoadVarName,
  LoadLocVar,
  LoadDebug,
  LoadFunction,
  CheckHeader,
  Undump,
}
use Rattle.format.specs.Read.{Read, ok, refused, Reader, ◌>>=◌, give, here, refuse, run, many}
use Rattle.format.specs.ReadFields.{field, number}
use Rattle.format.specs.ReadHeader.{expect}
use Rattle.format.proofs.Exact.{Exact, Split, never, exact_give, exact_here, exact_then, exact_as, exact_run, exact_many}
use Rattle.format.proofs.ExactFields.{exact_field, exact_number}
use Rattle.format.proofs.ExactHeader.{both, both_of, exact_expect}
use Rattle.format.proofs.ExactChunk.{exact_refuse}
use Rattle.format_strict.specs.ReadStrict as strict
use Rattle.format_strict.proofs.ExactStrict as strictly
use Rattle.format_lua.proofs.LundumpParts.{size_wider, int_wider, size_loads, int-loads}

pub record Takes {A : Type 0} (F : Form A) : Type 0 where
  pub reader : Reader A
  pub exact : Exact reader F

-- ## One for each way to make a form
abbrev pub take-is : {A : Type 0} {x : A} → Takes (Is x)
take-is {x} = record { reader = give x; exact = exact_give x }

abbrev pub take-here : Takes Here
take-here = record { reader = here; exact = exact_here }

abbrev pub take_nothing : {A : Type 0} → Takes {A = A} Nothing
take_nothing = record { reader = refuse Overflow; exact = exact_refuse Overflow }

abbrev pub take-run : (n : ℕ) → Takes (Run n)
take-run n = record { reader = run n; exact = exact_run n }

abbrev pub take-field : (n : ℕ) → Takes (Field n)
take-field n = record { reader = field n; exact = exact_field n }

abbrev pub take-spelt : (b : Bytes) → Takes (Spelt b)
take-spelt b = record { reader = expect b (λ _. Overflow); exact = exact_expect b (λ _. Overflow) }

abbrev pub take_then : {A B : Type 0} {F : Form A} {G : A → Form B} → Takes F → ((x : A) → Takes (G x)) → Takes (Then F G)
take_then one two = record { reader = one.reader >>= (λ x. (two x).reader); exact = exact_then one.exact (λ x. (two x).exact) }

abbrev pub take-many : {A : Type 0} {F : Form A} (n : ℕ) → Takes F → Takes (Many n F)
take-many n one = record { reader = many n one.reader; exact = exact_many n one.exact }

abbrev pub take_when : {A : Type 0} {F G : Form A} (t : Bool) → Takes F → Takes G → Takes (When t F G)
take_when true one two = one
take_when false one two = two

-- ## Numbers: ours, if the bytes are bytes and the number is not too large
-- a reader, and a test of what it read and of its bytes
module _ {A : Type 0} (t : A → Bytes → Bool) where
  abbrev pub judge : ℕ → Bytes → Read A → Read A
  judge at s (ok x to rest) = cond (t x (take (to - at) s)) (ok x to rest) (refused Overflow)
  judge at s (refused q) = refused q

  abbrev pub judged : Reader A → Reader A
  judged r at s = judge at s (r at s)

  exact_judged : {r : Reader A} {F : Form A} → Exact r F → Exact (judged r) (λ at b x. T (t x b) × F at b x)
  exact_judged {r} {F} one = record { sound = λ {at} {s} e. front (r at s) refl e; complete = λ rest g. back rest g }
    where
      picked : {at : ℕ} {s : Bytes} {x y : A} {mid to : ℕ} {u rest : Bytes} (b : Bool) → Split F at s y mid u → (T b → T (t y (take (mid - at) s)))
          → cond b (ok y mid u) (refused Overflow) ≡ ok x to rest → Split (λ at b x. T (t x b) × F at b x) at s x to rest
      picked {at} {s} {x} {y} {mid} {to} {u} {rest} true a h e =
          let size : mid - at ≡ length a.bytes = omega (arith, a.place) in
          let taken : take (mid - at) s ≡ a.bytes = rw (a.whole, size) (take_at a.bytes u (length a.bytes) refl) in
          let same : y ≡ x = cc in
          record { bytes = a.bytes; whole = cc a.whole; place = cc a.place; spelt = rw (← same) (rw taken at (h tt), a.spelt) }
      picked false a h e = absurd (never e)

      front : {at : ℕ} {s : Bytes} {x : A} {to : ℕ} {rest : Bytes} (o : Read A) → r at s ≡ o → judge at s o ≡ ok x to rest → Split (λ at b x. T (t x b) × F at b x) at s x to rest
      front {at} {s} (ok y mid u) p e = picked (t y (take (mid - at) s)) (one.sound p) (λ h. h) e
      front (refused q) p e = absurd (never e)

      passed : (b : Bool) {x : A} {to : ℕ} {rest : Bytes} → T b → cond b (ok x to rest) (refused Overflow) ≡ ok x to rest
      passed true h = refl
      passed false {to = to} {rest = rest} h = elim h [ ]

      back : {at : ℕ} {b : Bytes} {x : A} (rest : Bytes) → T (t x b) × F at b x → judge at (b ++ rest) (r at (b ++ rest)) ≡ ok x (at + length b) rest
      back {at} {b} {x} rest g =
          let size : at + length b - at ≡ length b = omega arith in
          rw (one.complete rest g.1, size, take_at b rest (length b) refl) (passed (t x b) g.0)

abbrev pub bytes_only : Bytes → Bool
bytes_only [] = true
bytes_only (x ∷ xs) = ltb x 256 && bytes_only xs

are_bytes : (b : Bytes) → T (bytes_only b) → Below 256 b
are_bytes [] h = tt
are_bytes (x ∷ xs) h = let k = both (ltb x 256) (bytes_only xs) h in (ltb→lt x 256 k.0, are_bytes xs k.1)

bytes_are : (b : Bytes) → Below 256 b → T (bytes_only b)
bytes_are [] h = tt
bytes_are (x ∷ xs) h = both_of (ltb x 256) (bytes_only xs) (lt→ltb x 256 h.0) (bytes_are xs h.1)

-- a reader, and its bytes are bytes
exact_bytes : {A : Type 0} {r : Reader A} {F G : Form A} → ((at : ℕ) (b : Bytes) (v : A) → Below 256 b → F at b v → G at b v) → ((at : ℕ) (b : Bytes) (v : A) → G at b v → Below 256 b × F at b v) → Exact r F
    → Exact (judged (λ v b. bytes_only b) r) G
exact_bytes to from one = exact_as (λ at b v. (λ g. to at b v (are_bytes b g.0) g.1, λ d. let f = from at b v d in (bytes_are b f.0, f.1))) (exact_judged (λ v b. bytes_only b) one)

abbrev pub size : Reader ℕ
size = judged (λ v b. bytes_only b) number

pub exact_size : Exact size LoadSize
exact_size = exact_bytes (λ at b v. size_loads at v b) (λ at b v d. (d.0, size_wider.widens {at = at} d)) exact_number

abbrev pub int : Reader ℕ
int = judged (λ v b. bytes_only b) strict.int

pub exact_int : Exact int LoadInt
exact_int = exact_bytes (λ at b v. int-loads at v b) (λ at b v d. (d.0, int_wider.widens {at = at} d)) strictly.exact_int

abbrev pub take_size : Takes LoadSize
take_size = record { reader = size; exact = exact_size }

abbrev pub take-int : Takes LoadInt
take-int = record { reader = int; exact = exact_int }

-- ## Strings, constants and the other entries
abbrev pub take-content : (size : ℕ) → Takes (Content size)
take-content zero = take-is
take-content (suc size) = take_then take-here λ place. take_then (take-run size) λ bytes. take-is

abbrev pub take_stringN : Takes LoadStringN
take_stringN = take_then take_size take-content

abbrev pub take-not_null : (st : Option LuaString) → Takes (NotNull st)
take-not_null none = take_nothing
take-not_null (some t) = take-is

abbrev pub take-string : Takes LoadString
take-string = take_then take_stringN take-not_null

abbrev pub take_counted : {A : Type 0} {F : Form A} → Takes F → Takes (LoadCounted F)
take_counted one = take_then take-int λ n. take_then take-here λ place. take_then (take-many n one) λ items. take-is

abbrev pub take-constant : Takes LoadConstant
take-constant = take_then (take-field 1) λ t.
    take_when (eqb t 0) take-is
    (take_when (eqb t 1) take-is
    (take_when (eqb t 17) take-is
    (take_when (eqb t 3) (take_then (take-field 8) λ n. take-is)
    (take_when (eqb t 19) (take_then (take-field 8) λ n. take-is)
    (take_when (eqb t 4) (take_then take-string λ st. take-is)
    (take_when (eqb t 20) (take_then take-string λ st. take-is)
    take_nothing))))))

abbrev pub take-upvalue : Takes LoadUpvalue
take-upvalue = take_then (take-field 1) λ instack. take_then (take-field 1) λ idx. take_then (take-field 1) λ kind. take-is

abbrev pub take-anchor : Takes LoadAbsLineInfo
take-anchor = take_then take-int λ pc. take_then take-int λ line. take-is

abbrev pub take-name : Takes LoadVarName
take-name = take_then take_stringN λ varname. take_then take-here λ place. take-is

abbrev pub take-local : Takes LoadLocVar
take-local = take_then take-name λ name. take_then take-int λ startpc. take_then take-int λ endpc. take-is

abbrev pub take_debug : Takes LoadDebug
take_debug =
    take_then take-int λ n.
    take_then take-here λ lineinfo_at.
    take_then (take-run n) λ lineinfo.
    take_then (take_counted take-anchor) λ abslineinfo.
    take_then (take_counted take-local) λ locvars.
    take_then (take_counted take_stringN) λ upvalue_names_lem.
    take-is

-- ## Functions
abbrev pub take-protos : (n : ℕ) {F : Where → Form (List Prototype)} → ((w : Where) → Takes (F w)) → (w : Where) → Takes (LoadProtos n F w)
take-protos zero one w = take-is
take-protos (suc n) one w = take_then (one w) λ ps. take_then (take-protos n one (after ps w)) λ more. take-is

unfoldable pub take-function : (left : ℕ) (w : Where) → Takes (LoadFunction left w)
unfolding LoadFunction
take-function zero w = take_nothing
take-function (suc left) w =
    take_then take-here λ start.
    take_then take_stringN λ source.
    take_then take-int λ linedefined.
    take_then take-int λ lastlinedefined.
    take_then (take-field 1) λ numparams.
    take_then (take-field 1) λ is_vararg.
    take_then (take-field 1) λ maxstacksize.
    take_then (take_counted (take-field 4)) λ code.
    take_then (take_counted take-constant) λ k.
    take_then (take_counted take-upvalue) λ upvalues.
    take_then take-int λ n.
    take_then take-here λ protos-at.
    take_then (take-protos n (take-function left) (within w (inherit source w.source) (length code.items))) λ p.
    take_then take_debug λ debug.
    take_then take-here λ end.
    take-is

-- ## Chunks
abbrev pub take-header : Takes CheckHeader
take-header =
    take_then (take-spelt _) λ _.
    take_then (take-spelt _) λ _.
    take_then (take-spelt _) λ _.
    take_then (take-spelt _) λ _.
    take_then (take-spelt _) λ _.
    take_then (take-spelt _) λ _.
    take_then (take-spelt _) λ _.
    take_then (take-spelt _) λ _.
    take_then (take-spelt _) λ _.
    take-is

abbrev pub take_undump : (left : ℕ) → Takes (Undump left)
take_undump left = take_then take-header λ headed. take_then (take-field 1) λ nupvalues. take_then (take-function left outermost) λ functions. take-is

-- what is read, if no bytes are left
abbrev pub whole : {A : Type 0} → Read A → Option A
whole (ok x to []) = some x
whole (ok x to (b ∷ bs)) = none
whole (refused q) = none

abbrev pub loads : ℕ → Bytes → Option Loaded
loads left chunk = whole ((take_undump left).reader 0 chunk)

pub loads_exactly : (left : ℕ) (chunk : Bytes) (m : Loaded) → loads left chunk ≡ some m ↔ Undump left 0 chunk m
loads_exactly left chunk m = (λ e. front ((take_undump left).reader 0 chunk) refl e, λ d. rw (← append-nil chunk, (take_undump left).exact.complete {at = 0} [] d) refl)
  where
    front : (o : Read Loaded) → (take_undump left).reader 0 chunk ≡ o → whole o ≡ some m → Undump left 0 chunk m
    front (ok x to []) p e =
        let a = (take_undump left).exact.sound {at = 0} {s = chunk} p in
        let all : a.bytes ≡ chunk = sym (a.whole ∙ append-nil a.bytes) in
        let same : x ≡ m = cc in
        rw (← same) (rw all at a.spelt)
    front (ok x to (b ∷ bs)) p e = absurd (let z : ◌≡◌ {A = ℕ} 0 1 = cc in omega arith)
    front (refused q) p e = absurd (let z : ◌≡◌ {A = ℕ} 0 1 = cc in omega arith)

pub never_loads : (left : ℕ) (chunk : Bytes) → loads left chunk ≡ none → (m : Loaded) → Undump left 0 chunk m → ⊥
never_loads left chunk e m d = let f = (loads_exactly left chunk m).1 d in let z : ◌≡◌ {A = ℕ} 0 1 = cc in omega arith
