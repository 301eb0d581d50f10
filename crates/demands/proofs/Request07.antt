-- REQUEST 7 (02, item 7): reading as the analyser will. Each sentence of it once, about the stricter reading `strict_read` (crates/format_strict/specs/ReadStrict.antt), and of the call.
--     (Demand2.antt)       "A further reading call": `strict_summary` answers by `strict_read` what `chunk_summary` answers by `read`; Demand2C.antt: behind C, with what it leaves of the lent array
--     same_answer          "is stricter, with the same answer when it accepts"
--     strict_then_read     "Acceptance here implies acceptance by the ordinary reading, with an equal reading"; strict_shows: that reading every other call shows
--     only_besides         "is stricter": a chunk that is read, and not strictly, is refused by 31 to 33; strict_agrees (crates/format_strict/proofs/StrictAgrees.antt): else both refuse alike
--     strict_exactly, call_exactly     "the chunks accepted are exactly those that belong under the limits to the stricter grammar, which is stated by itself" (crates/format_strict/specs/GrammarStrict.antt: no reader in it)
--     strict_as_lua        "It limits every number that lundump.c reads as an int, which is all but string sizes": exactly what Lua's own loader takes, where it is within the limits (`LoadedWithin`, crates/format_lua/specs/LundumpWithin.antt)
--     checks, call_checks, lafzimdo_strict_summary     "Checks: 31 .. 32 .. 33 ..": number and place of the refusal are those of the first of 21, 22 and what the reader refuses; of the call; behind C. strict_coded: and
--                                  what C gets has both
-- And of these checks, in StrictOrder.antt:
--     strict_decided_early, strict_in_byte_order   1 to 20 and 31 to 33 come in byte order, each for its cause
--     thirty_one, format_first     "31, a format byte other than 0, right after that byte"
--     thirty_two, int_first        "32, such a number of 2^31 − 128 or more, when it is complete" (int_incomplete: not before), "before 2 and before its limit": before anything is made of it. fourteen, sixteen, seventeen,
--                                  eighteen: so a count that is refused for its limit is below 2^31 − 128
--     thirty_three, null_first     "33, a string constant of size 0, right after the size"
--                                  "The place is the first byte of the format, number or size refused": `begins` in each of the three causes. strict_places: it lies in the file
-- Worked cases: crates/format_strict/proofs/StrictCases.antt.
-- Assumes nothing.
use Rattle.std.specs.Prelude.{Ok}
use mathlib.Core.Path.{◌≡◌, refl, sym, ◌∙◌, ap}
use mathlib.Core.Logic.{◌↔◌}
use mathlib.Core.Bool.{Bool, true, false, ◌&&◌, ◌||◌}
use mathlib.Core.List.{List}
use Prim.Native.Nat.{ℕ, ◌≤◌}
use native.Mathlib.Omega.{arith}
use lib.Dec.{leb}
use lib.ListN.{length}
use borrow.Author.Tests.{leb-true, lt-leb}
use Rattle.format.specs.declared.limits.ResourceLimits.{ResourceLimits}
use Rattle.format.specs.declared.refusal.Refusal.{Refusal}
use Rattle.format.specs.Refusals.{reported}
use Rattle.format.specs.Form.{Bytes, Below}
use Rattle.format.specs.Limits.{within_ceilings}
use Rattle.format.specs.Reading.{Reading}
use Rattle.format.specs.ReadChunk.{Outcome, shown, refusal, read}
use Rattle.format.proofs.OrderCases.{refused_with}
use Rattle.format.proofs.ReadChunkLaws.{read-within}
use Rattle.format_strict.specs.GrammarStrict.{StrictChunk}
use Rattle.format_strict.specs.ReadStrict.{strict_read}
use Rattle.format_strict.proofs.StrictLaws.{strict_sound, strict_within, strict_complete, strict_is-read}
use Rattle.format_strict.proofs.StrictAgrees as agrees
use Rattle.format_spelling.specs.ReadSpelling.{spelling}
use Rattle.format_lua.specs.LundumpWithin.{LoadedWithin}
use Rattle.format_lua.proofs.StrictLoaded.{strict_as_loaded}
use Rattle.show_chunk.specs.declared.summary.ChunkSummary.{ChunkSummary}
use Rattle.show_chunk.specs.Summaries.{shown_summary}
use Rattle.c_boundary.specs.Status.{limits_of, coded}
use Rattle.lafzimdo.specs.Answers.{ofSummary}
use Rattle.demands.proofs.Refused.{first, in_summary}
use Rattle.demands.proofs.ByC.{InC, law, of_summary, in_one, coded-inside}
use Rattle.demands.proofs.StrictOrder.{strict_decided_early, strict_places, for_strict, strict_order}
use Rattle.demands.proofs.Calls.{Shows, shows}

module _ (L : ResourceLimits) (s : Bytes) where
  -- ## With the ordinary reading
  pub strict_then_read : (r : Reading) → strict_read L s ≡ shown r → read L s ≡ shown r
  strict_then_read r e = strict_is-read L s r e

  pub strict_shows : (r : Reading) → strict_read L s ≡ shown r → Shows L s r
  strict_shows r e = shows L s r (strict_then_read r e)

  pub only_besides : (r : Reading) (q : Refusal) → read L s ≡ shown r → strict_read L s ≡ refusal q → (31 ≤ (reported q).number) × ((reported q).number ≤ 33)
  only_besides r q is e =
      let low = agrees.besides L s r q is e in
      let w = read-within L s r is in
      let listed = (strict_decided_early L w.0 s q w.1 e).by_file.to in
      (low, leb-true (reported q).number 33 (last (leb (reported q).number 20) (lt-leb (reported q).number 20 (omega arith)) (leb 31 (reported q).number) (leb (reported q).number 33) listed))
    where
      last : (a : Bool) → a ≡ false → (b c : Bool) → a || (b && c) ≡ true → c ≡ true
      last true f b c t = absurd (let z : ◌≡◌ {A = ℕ} 0 1 = cc in omega arith)
      last false f true c t = t
      last false f false c t = absurd (let z : ◌≡◌ {A = ℕ} 0 1 = cc in omega arith)

  -- ## With the stricter grammar, and with Lua's own loader
  -- the limits and the file within theirs, and `As r` of the bytes
  pub record Within (As : Reading → Type 0) (r : Reading) : Type 0 where
    pub ceilings : within_ceilings L ≡ true
    pub input : length s ≤ L.max_input_bytes
    pub is : As r

  pub strict_exactly : (r : Reading) → strict_read L s ≡ shown r ↔ Within (StrictChunk L s) r
  strict_exactly r = (
    λ e. let w = strict_within L s r e in record { ceilings = w.0; input = w.1; is = strict_sound L s r e },
    λ b. strict_complete L s r b.ceilings b.input b.is,
  )

  -- with a string limit of at least 1: a local name that is absent is shown as `?`
  pub strict_as_lua : (r : Reading) → 1 ≤ L.max_string_bytes → Below 256 s → strict_read L s ≡ shown r ↔ Within (LoadedWithin L s) r
  strict_as_lua r long bytes =
      let one = strict_exactly r in
      let two = strict_as_loaded L s r long bytes in (
        λ e. let b = one.0 e in record { ceilings = b.ceilings; input = b.input; is = two.0 b.is },
        λ b. one.1 (record { ceilings = b.ceilings; input = b.input; is = two.1 b.is }),
      )

  -- ## Checks
  pub checks : refused_with (strict_read L s) ≡ first (for_strict L s)
  checks = strict_order L s

  -- ## Of the call
  -- it answers with a summary
  pub record StrictlyGiven (x : ChunkSummary) : Type 0 where
    pub answers : shown_summary (spelling L s) (strict_read L s) ≡ Ok x

  accepted : {x : ChunkSummary} → StrictlyGiven x → (r : Reading) × (strict_read L s ≡ shown r)
  accepted {x} g = by (strict_read L s) refl g.answers
    where
      by : (o : Outcome) → strict_read L s ≡ o → shown_summary (spelling L s) o ≡ Ok x → (r : Reading) × (strict_read L s ≡ shown r)
      by (shown r) is e = (r, is)
      by (refusal q) is e = absurd (let z : ◌≡◌ {A = ℕ} 0 1 = cc in omega arith)

  pub same_answer : {x : ChunkSummary} → StrictlyGiven x → shown_summary (spelling L s) (read L s) ≡ Ok x
  same_answer g = let a = accepted g in ap (shown_summary (spelling L s)) (strict_then_read a.0 a.1 ∙ sym a.1) ∙ g.answers

  pub call_exactly : ((x : ChunkSummary) × StrictlyGiven x) ↔ ((r : Reading) × Within (StrictChunk L s) r)
  call_exactly = (
    λ g. let a = accepted g.1 in (a.0, (strict_exactly a.0).0 a.1),
    λ b. (_, record { answers = ap (shown_summary (spelling L s)) ((strict_exactly b.0).1 b.1) }),
  )

  pub call_checks : in_summary (shown_summary (spelling L s) (strict_read L s)) ≡ first (for_strict L s)
  call_checks = by (strict_read L s) ∙ checks
    where
      by : (o : Outcome) → in_summary (shown_summary (spelling L s) o) ≡ refused_with o
      by (shown r) = refl
      by (refusal q) = refl

-- and behind C: the status says the same, and where it is a refusal the lent array is as it was
pub lafzimdo_strict_summary : (limits : List ℕ) (s : Bytes) → InC (ofSummary (shown_summary (spelling (limits_of limits) s) (strict_read (limits_of limits) s))) (for_strict (limits_of limits) s)
lafzimdo_strict_summary limits s = law _ _ (of_summary (shown_summary (spelling (limits_of limits) s) (strict_read (limits_of limits) s)) ∙ call_checks (limits_of limits) s)

pub strict_coded : (L : ResourceLimits) (s : Bytes) (q : Refusal) → strict_read L s ≡ refusal q → coded q ≡ in_one (reported q).number (reported q).place
strict_coded L s q e = coded-inside q (strict_places L s q e).1
