-- The stricter reading of whole chunks against its grammar, and against the ordinary reading.
--     strict_sound, strict_within, strict_complete     read strictly exactly where it belongs to the stricter grammar, with the limits and the file within theirs
--     strict_belongs                                   what belongs to the stricter grammar belongs to the ordinary one, with the same reading
--     strict_is-read                                   what is read strictly is read, with the same reading
--     int_number, int_small                            an int is a number below 2^31 - 128
-- Assumes nothing.
use mathlib.Core.Path.{◌≡◌, refl, ◌∙◌, ap}
use mathlib.Core.Bool.{Bool, true, false, cond}
use mathlib.Core.List.{List, [], ◌∷◌, ◌++◌, append-nil}
use mathlib.Core.Option.{Option, none, some, get_or}
use Prim.Native.Nat.{ℕ, zero, suc, ◌-◌, ◌^◌, ◌≤◌, ◌<◌}
use native.Mathlib.Nat.{zero-add, add-zero}
use lib.Dec.{eqb, leb}
use borrow.Author.Tests.{leb-true, le-leb}
use lib.ListN.{length}
use Rattle.format.specs.declared.limits.ResourceLimits.{ResourceLimits}
use Rattle.format.specs.declared.refusal.Refusal.TheVariants.{InputBytes, LimitAboveCeiling}
use Rattle.format.specs.Form.{Bytes, Form, Then, Is, Here, Given, Spelt}
use Rattle.format.specs.Limits.{within_ceilings}
use Rattle.format.specs.GrammarFields.{LuaString, Number, Byte, little}
use Rattle.format.specs.GrammarHeader.{Header}
use Rattle.format.specs.Reading.{Prototype, Reading}
use Rattle.format.specs.GrammarChunk.{Counted, CountedUpTo, Always, Constant, Anchor, Local, Where, Body, Function, Loaded, Main, reading, Chunk}
use Rattle.format_strict.specs.GrammarStrict.{Int, StrictCounted, StrictCountedUpTo, There, Present, StrictConstant, StrictAnchor, StrictLocal, StrictBody, StrictFunction, StrictHeader, StrictMain, StrictChunk}
use Rattle.format.specs.Read.{Read, ok, refused}
use Rattle.format.specs.ReadChunk.{shown, refusal, outcome, read}
use Rattle.format_strict.specs.ReadStrict.{strict_main, strict_read}
use Rattle.format.proofs.Exact.{Split}
use Rattle.format_strict.proofs.ExactStrict.{exact_strict_main}
use Rattle.format.proofs.ReadChunkLaws.{no_refusal, read_complete}
use Rattle.format.proofs.Wider.{Wider, same_wider, none_wider, then_wider, behind, so, many_wider, when_wider, joined, opened, known, at_place}
use Rattle.format.proofs.WiderChunk.{forest_wider}

-- ## The stricter grammar is a part of the ordinary one
-- a test that is left out
untested : {A : Type 0} {P : Type 0} {G : Form A} → Wider (Then (Given P) (λ _. G)) G
untested = record {
  widens = λ {at} {bytes} d.
      let all : bytes ≡ d.back = d.whole ∙ ap (λ b. b ++ d.back) d.one.0 in
      rw all (rw (d.one.0, add-zero) at d.two);
}

-- an int is a number that is small: the test and the value have no bytes
pub int_number : Wider Int Number
int_number = record {
  widens = λ {at} {bytes} {x} d.
      let none : d.back ≡ [] = d.two.whole ∙ ap (λ c. c ++ d.two.back) d.two.one.0 ∙ d.two.two.0 in
      let all : bytes ≡ d.front = d.whole ∙ ap (λ c. d.front ++ c) none ∙ append-nil d.front in
      let number : Number at d.front x = rw (← d.two.two.1) d.one in
      rw all number;
}

pub int_small : (at : ℕ) (b : Bytes) (v : ℕ) → Int at b v → v < 2 ^ 31 - 128
int_small at b v d = rw (← d.two.two.1) d.two.one.1

-- before what goes on from it
after-int : {A : Type 0} {G G' : ℕ → Form A} → ((n : ℕ) → Wider (G n) (G' n)) → Wider (Then Int G) (Then Number G')
after-int two = joined opened (behind λ n. joined opened (joined untested (joined known (two n))))

counted_strict : {A : Type 0} {F G : Form A} → Wider F G → Wider (StrictCounted F) (Counted G)
counted_strict one = after-int λ n. behind λ place. so (many_wider n one)

up_to_strict : {A : Type 0} {F G : Form A} (limit : ℕ) → Wider F G → Wider (StrictCountedUpTo limit F) (CountedUpTo limit G)
up_to_strict limit one = after-int λ n. behind λ _. behind λ place. so (many_wider n one)

there_strict : (t : Option LuaString) → Wider (There t) (Then Here (λ place. Is (get_or t (record { place = place; bytes = [] }))))
there_strict none = none_wider
there_strict (some t) = at_place λ place. same_wider

present_strict : (limit : ℕ) → Wider (Present limit) (Always limit [])
present_strict limit = behind there_strict

constant_strict : (limit : ℕ) → Wider (StrictConstant limit) (Constant limit)
constant_strict limit = behind λ tag.
    when_wider (eqb tag 0) same_wider
    (when_wider (eqb tag 1) same_wider
    (when_wider (eqb tag 17) same_wider
    (when_wider (eqb tag 3) same_wider
    (when_wider (eqb tag 19) same_wider
    (when_wider (eqb tag 4) (so (present_strict limit))
    (when_wider (eqb tag 20) (so (present_strict limit))
    same_wider))))))

anchor_strict : Wider StrictAnchor Anchor
anchor_strict = after-int λ pc. after-int λ line. same_wider

local_strict : (limit : ℕ) → Wider (StrictLocal limit) (Local limit)
local_strict limit = behind λ name. after-int λ startpc. after-int λ endpc. same_wider

body_strict : (L : ResourceLimits) {F G : Where → Form (List Prototype)} → ((w : Where) → Wider (F w) (G w)) → (w : Where) → Wider (StrictBody L F w) (Body L G w)
unfolding StrictBody Body
body_strict L one w =
    behind λ start.
    behind λ spelt.
    after-int λ line_defined.
    after-int λ last_line_defined.
    behind λ numparams.
    behind λ is_vararg.
    behind λ maxstacksize.
    after-int λ size.
    behind λ _.
    behind λ _.
    behind λ instructions_at.
    behind λ instructions.
    then_wider (up_to_strict L.max_constants_per_proto (constant_strict L.max_string_bytes)) λ constants.
    then_wider (up_to_strict L.max_upvalues_per_proto same_wider) λ upvalues.
    after-int λ protos.
    behind λ _.
    behind λ protos-at.
    then_wider (forest_wider protos _ one) λ nested.
    after-int λ line-info-size.
    behind λ line-info-at.
    behind λ line_info_lem.
    then_wider (counted_strict anchor_strict) λ abs_line_info.
    then_wider (counted_strict (local_strict L.max_string_bytes)) λ loc_vars.
    so (counted_strict same_wider)

function_strict : (L : ResourceLimits) (left : ℕ) (w : Where) → Wider (StrictFunction L left w) (Function L left w)
unfolding StrictFunction Function
function_strict L zero w = body_strict L (λ w. none_wider) w
function_strict L (suc left) w = body_strict L (λ w. behind λ _. function_strict L left w) w

-- the format byte is 0, and the ordinary header shows it
format_byte : {A : Type 0} {G : ℕ → Form A} → Wider (Then (Spelt (0 ∷ [])) (λ _. G 0)) (Then Byte G)
format_byte = record {
  widens = λ d.
      let f = d.one in
      record {
        value = 0;
        front = d.front;
        back = d.back;
        whole = d.whole;
        one = record { value = f.value; front = f.front; back = f.back; whole = f.whole; one = f.one; two = (f.two.0, ap little f.two.1) };
        two = d.two;
      };
}

header_strict : Wider StrictHeader Header
header_strict = behind λ _. at_place λ place. format_byte

pub main_strict : (L : ResourceLimits) → Wider (StrictMain L) (Main L)
main_strict L = then_wider header_strict λ headed. behind λ forgotten. so (function_strict L _ _)

pub strict_belongs : (L : ResourceLimits) (chunk : Bytes) (r : Reading) → StrictChunk L chunk r → Chunk L chunk r
strict_belongs L chunk r c = record { front = c.front; trailing = c.trailing; whole = c.whole; value = c.value; main = (main_strict L).widens c.main; shows = c.shows }

-- ## Read strictly exactly where it belongs
record Judged (L : ResourceLimits) (chunk : Bytes) (r : Reading) : Type 0 where
  ceilings : within_ceilings L ≡ true
  input : length chunk ≤ L.max_input_bytes
  rest : outcome L (strict_main L 0 chunk) ≡ shown r

judged : (L : ResourceLimits) (chunk : Bytes) (r : Reading) → strict_read L chunk ≡ shown r → Judged L chunk r
unfolding strict_read
judged L chunk r e = first (within_ceilings L) (leb (length chunk) L.max_input_bytes) refl refl e
  where
    first : (a b : Bool) → within_ceilings L ≡ a → leb (length chunk) L.max_input_bytes ≡ b
        → cond a (cond b (outcome L (strict_main L 0 chunk)) (refusal InputBytes)) (refusal LimitAboveCeiling) ≡ shown r → Judged L chunk r
    first true true p q e = record { ceilings = p; input = leb-true (length chunk) L.max_input_bytes q; rest = e }
    first true false p q e = no_refusal e
    first false b p q e = no_refusal e

pub strict_sound : (L : ResourceLimits) (chunk : Bytes) (r : Reading) → strict_read L chunk ≡ shown r → StrictChunk L chunk r
strict_sound L chunk r e = from (strict_main L 0 chunk) refl (judged L chunk r e).rest
  where
    from : (o : Read Loaded) → strict_main L 0 chunk ≡ o → outcome L o ≡ shown r → StrictChunk L chunk r
    from (ok m to trailing) p e =
        let a : Split (StrictMain L) 0 chunk m to trailing = (exact_strict_main L).sound p in
        let place : to ≡ length a.bytes = a.place ∙ zero-add (length a.bytes) in
        let shows : reading L m to trailing ≡ r = cc in
        record { front = a.bytes; trailing = trailing; whole = a.whole; value = m; main = a.spelt; shows = rw place at shows }
    from (refused q) p e = no_refusal e

pub strict_within : (L : ResourceLimits) (chunk : Bytes) (r : Reading) → strict_read L chunk ≡ shown r → (within_ceilings L ≡ true) × (length chunk ≤ L.max_input_bytes)
strict_within L chunk r e = let j = judged L chunk r e in (j.ceilings, j.input)

pub strict_complete : (L : ResourceLimits) (chunk : Bytes) (r : Reading) → within_ceilings L ≡ true → length chunk ≤ L.max_input_bytes → StrictChunk L chunk r → strict_read L chunk ≡ shown r
unfolding strict_read
strict_complete L chunk r p q c =
    rw (p, le-leb (length chunk) L.max_input_bytes q)
    (rw (c.whole, (exact_strict_main L).complete c.trailing c.main, zero-add (length c.front), c.shows))

-- ## And it is the ordinary reading
pub strict_is-read : (L : ResourceLimits) (chunk : Bytes) (r : Reading) → strict_read L chunk ≡ shown r → read L chunk ≡ shown r
strict_is-read L chunk r e = let w = strict_within L chunk r e in read_complete L chunk r w.0 w.1 (strict_belongs L chunk r (strict_sound L chunk r e))
