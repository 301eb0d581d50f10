-- A string that is there stands behind its size: so a function's source as it is spelt stands behind the function's start, and its parent's, which it may take over, does not.
--     Behind at t          a string, if it is there, begins behind the place
--     string-behind, head-behind
-- Assumes nothing.
use mathlib.Core.Path.{◌≡◌, ap}
use mathlib.Core.List.{[], ◌∷◌}
use mathlib.Core.Option.{Option, none, some}
use Prim.Native.Nat.{ℕ, zero, suc, ◌<◌}
use native.Mathlib.Omega.{arith}
use lib.ListN.{length, drop, length-append}
use Rattle.format.specs.declared.limits.ResourceLimits.{ResourceLimits}
use Rattle.format.specs.declared.refusal.Refusal.{Refusal}
use Rattle.format.specs.declared.refusal.Refusal.TheVariants.{StringBytes}
use Rattle.format.specs.Form.{Bytes}
use Rattle.format.specs.GrammarFields.{LuaString}
use Rattle.format.specs.Read.{at_most}
use Rattle.format.specs.ReadFields.{number, content, string}
use Rattle.format.proofs.Exact.{exact_give, exact_then, exact_at_most, exact_run}
use Rattle.format.proofs.ExactFields.{exact_field, exact_number, exact_string}
use Rattle.format.proofs.Located.{AtPlace, any, at_give, at_here, at_then}
use Rattle.read_prototype.specs.Parts.{head}
use Rattle.read_prototype.proofs.FrontAnswers.{exact_front}
use Rattle.read_prototype.proofs.HeadAnswers.{exact_lists}
use Rattle.read_list.proofs.Within.{exact_protos_count}

abbrev pub Behind : ℕ → Option LuaString → Type 0
Behind at none = Unit {0}
Behind at (some t) = at < t.place

number-on : {s : Bytes} {at : ℕ} → AtPlace s at number (λ to n. at < to)
number-on {s} {at} = record {
  holds = λ {x} {to} {rest} e. (let a = exact_number.sound {at = at} {s = drop at s} {x = x} {to = to} {rest = rest} e in omega (arith, a.place, ap length a.spelt.whole, length-append a.spelt.more (a.spelt.last ∷ [])));
}

pub limit_stays : {s : Bytes} {at : ℕ} (n limit : ℕ) (p : Refusal) → AtPlace s at (at_most n limit p) (λ to _. at ≡ to)
limit_stays {s} {at} n limit p = record {
  holds = λ {x} {to} {rest} e. (let a = (exact_at_most n limit p).sound {at = at} {s = drop at s} {x = x} {to = to} {rest = rest} e in let empty : length a.bytes ≡ 0 = ap length a.spelt.0 in omega (arith, a.place, empty));
}

content-behind : {s : Bytes} {at from : ℕ} (limit first size : ℕ) → from < at → AtPlace s at (content limit first size) (λ to t. Behind from t)
content-behind limit first zero h = at_give tt
content-behind limit first (suc n) h =
    at_then (exact_at_most n limit (StringBytes first)) (limit_stays n limit (StringBytes first)) λ _ mid same.
    at_here λ place.
    at_then (exact_run n) any λ bytes _ _.
    at_give λ p. omega (arith, h, same, p)

pub string-behind : {s : Bytes} {at : ℕ} (limit : ℕ) → AtPlace s at (string limit) (λ to t. Behind at t)
string-behind {s} {at} limit = record { holds = λ e. (at_then {s = s} {at = at} exact_number number-on λ size to h. content-behind limit at size h).holds e }

pub head-behind : {s : Bytes} {at : ℕ} (L : ResourceLimits) (before : ℕ) → AtPlace s at (head L before) (λ to h. Behind at h.front.source)
head-behind {s} {at} L before =
    at_then {Q = λ to x. Behind at x.source} (exact_front L.max_string_bytes)
    (at_then (exact_string L.max_string_bytes) (string-behind L.max_string_bytes) λ source _ h.
    at_then (exact_then exact_number λ line. exact_then exact_number λ last. exact_give _) any λ _ _ _.
    at_then (exact_then (exact_field 1) λ a. exact_then (exact_field 1) λ b. exact_then (exact_field 1) λ c. exact_give _) any λ _ _ _.
    at_give h) λ x _ h.
    at_then (exact_lists L before) any λ _ _ _.
    at_then (exact_protos_count L.max_total_prototypes) any λ _ _ _.
    at_give h
