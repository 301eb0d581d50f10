-- What the pass that judges the anchors settles.
use Rattle.std.specs.Prelude.{Result, Ok, Err, Bool, true, false, cond, List, [], ◌∷◌, ℕ, ltb}
use Rattle.std.proofs.Math.Option.{Option, none, some}
use Rattle.format.specs.declared.entry.AbsLineInfo.{AbsLineInfo}
use Rattle.format.specs.declared.refusal.Refusal.{Refusal}
use Rattle.line_anchors.specs.Inner.Scan.{or_large}
use Rattle.line_batch.specs.declared.judge.Seen.{Seen}

abbrev pub still_rising : Seen → ℕ → Bool
still_rising z pc = cond z.rising (cond z.any (ltb z.last pc) true) false

abbrev pub see_by : Seen → AbsLineInfo → Seen
see_by z a = record { large = or_large z.large a.line; rising = still_rising z a.pc; any = true; last = a.pc }

abbrev pub seen_of : Seen → List AbsLineInfo → Seen
seen_of z [] = z
seen_of z (a ∷ more) = seen_of (see_by z a) more

abbrev pub start_seen : ℕ → Seen
start_seen line_defined = record { large = or_large false line_defined; rising = true; any = false; last = 0 }

abbrev pub judged_by : Option Refusal → Result (Unit {0}) Refusal
judged_by none = Ok tt
judged_by (some q) = Err q
