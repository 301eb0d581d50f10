-- A function's own source.
--     its_source       it is what is read at the function's place
--     own_between      a head with its own source, which the head's readers leave to who knows the function's number and its parent's source: together, too, they have no more than bytes
-- Assumes nothing.
use mathlib.Core.Path.{◌≡◌, sym, ◌∙◌, ap, ap₂, subst}
use Prim.Native.Nat.{ℕ}
use native.Mathlib.Omega.{arith}
use Rattle.format.specs.declared.limits.ResourceLimits.{ResourceLimits}
use Rattle.format.specs.Form.{Bytes}
use Rattle.format.specs.GrammarChunk.{Where}
use Rattle.format.specs.Read.{ok, ◌>>=◌, give}
use Rattle.format.specs.ReadFields.{string}
use Rattle.format.proofs.Exact.{exact_give}
use Rattle.format.proofs.ExactFields.{exact_string}
use Rattle.format.specs.declared.spelling.Spelling.{Spelling}
use Rattle.format_spelling.specs.Spelling.{◌⊕◌, dropping}
use Rattle.format_spelling.specs.ReadSpelling.{Count, plus}
use Rattle.format_spelling.specs.ReadSpelling as count
use Rattle.format_spelling.specs.Inner.Tally.{Between}
use Rattle.format_spelling.proofs.Sums.{spelling_path}
use Rattle.format_spelling.proofs.SpellingLaws.{tells_source}
use Rattle.format_spelling.proofs.Few.{few_source}
use Rattle.format_spelling.proofs.Covers.{Covers, covers_few, covers_none, covers_number, covers_then, covers_last}
use Rattle.format_spelling.proofs.Passing.{Ran, ran, Gave, gave, stepped}
use Rattle.read_entry.specs.Readers.{protos_count}
use Rattle.read_list.proofs.Within.{exact_protos_count}
use Rattle.read_prototype.specs.Front.{Front, lines, sizes, front}
use Rattle.read_prototype.specs.Parts.{Head, head_lists, head}
use Rattle.read_prototype.specs.PartsSpelt as spelt
use Rattle.read_prototype.proofs.CoversParts.{covers_lines, covers_sizes, covers_lists}

sum_own : (a b c : Spelling) → a ⊕ b ⊕ c ≡ a ⊕ c ⊕ b
sum_own a b c = spelling_path _ _ (omega arith) (omega arith) (omega arith) (omega arith)

-- the function stands at w
module _ (L : ResourceLimits) (before : ℕ) (w : Where) where
  abbrev limit : ℕ
  limit = L.max_string_bytes

  abbrev own_front : Count
  own_front = plus (string limit) (count.source limit w) λ source. spelt.lines

  abbrev own_head : Count
  own_head = plus (front limit) own_front λ front. plus (head_lists L before) (spelt.head_lists L before) λ lists. count.number

  covers_own_front : Covers (front limit) own_front
  covers_own_front = covers_then (covers_few (exact_string limit) (tells_source limit w) (few_source limit w)) λ _. covers_last covers_lines λ _. covers_last covers_sizes λ _. covers_none (exact_give _)

  covers_own_head : Covers (head L before) own_head
  covers_own_head = covers_then covers_own_front λ _. covers_then (covers_lists L before) λ _. covers_last (covers_number (exact_protos_count L.max_total_prototypes)) λ _. covers_none (exact_give _)

  module _ (at : ℕ) (s : Bytes) where
    front_own : {f : Front} {to : ℕ} {rest : Bytes} → front limit at s ≡ ok f to rest → own_front at s ≡ spelt.front limit at s ⊕ dropping w f.source
    front_own {f} {to} {rest} e =
        let a : Ran (string limit) (λ source. lines >>= λ between. sizes >>= λ three. give (record { source = source; lines = between; sizes = three })) at s f to rest = ran e in
        let b : Ran lines (λ between. sizes >>= λ three. give (record { source = a.value; lines = between; sizes = three })) a.mid a.left f to rest = ran a.two in
        let c : Gave sizes (λ three. record { source = a.value; lines = b.value; sizes = three }) b.mid b.left f to rest = gave b.two in
        rw (sym (ap (λ f. f.source) c.is), a.one) (sum_own (count.string at s) (dropping w a.value) (spelt.lines a.mid a.left))

    head_own : {h : Head} {to : ℕ} {rest : Bytes} → head L before at s ≡ ok h to rest → own_head at s ≡ spelt.head L before at s ⊕ dropping w h.front.source
    head_own {h} {to} {rest} e =
        let counts = protos_count L.max_total_prototypes in
        let more : Count = plus (head_lists L before) (spelt.head_lists L before) λ lists. count.number in
        let a : Ran (front limit) (λ f. head_lists L before >>= λ l. counts >>= λ p. give (record { front = f; lists = l; protos = p })) at s h to rest = ran e in
        let b : Ran (head_lists L before) (λ l. counts >>= λ p. give (record { front = a.value; lists = l; protos = p })) a.mid a.left h to rest = ran a.two in
        let c : Gave counts (λ p. record { front = a.value; lists = b.value; protos = p }) b.mid b.left h to rest = gave b.two in
        stepped (front limit) own_front (λ _. more) at s a.one
        ∙ ap (λ n. n ⊕ more a.mid a.left) (front_own a.one)
        ∙ sum_own (spelt.front limit at s) (dropping w a.value.source) (more a.mid a.left)
        ∙ ap₂ (λ n t. n ⊕ dropping w t) (sym (stepped (front limit) (spelt.front limit) (λ _. more) at s a.one)) (ap (λ h. h.front.source) c.is)

    pub own_between : {h : Head} {to : ℕ} {rest : Bytes} → head L before at s ≡ ok h to rest → Between (spelt.head L before at s ⊕ dropping w h.front.source) at to
    own_between {to} e = subst (λ a. Between a at to) (head_own e) (covers_own_head.covers at s e)

-- the source that is spelt
pub record Spelt (limit at : ℕ) (s : Bytes) (h : Head) : Type 0 where
  pub to : ℕ
  pub rest : Bytes
  pub is : string limit at s ≡ ok h.front.source to rest

pub its_source : (L : ResourceLimits) (before at : ℕ) (s : Bytes) {h : Head} {to : ℕ} {rest : Bytes} → head L before at s ≡ ok h to rest → Spelt L.max_string_bytes at s h
its_source L before at s {h} {to} {rest} e =
    let limit = L.max_string_bytes in
    let counts = protos_count L.max_total_prototypes in
    let a : Ran (front limit) (λ f. head_lists L before >>= λ l. counts >>= λ p. give (record { front = f; lists = l; protos = p })) at s h to rest = ran e in
    let b : Ran (head_lists L before) (λ l. counts >>= λ p. give (record { front = a.value; lists = l; protos = p })) a.mid a.left h to rest = ran a.two in
    let c : Gave counts (λ p. record { front = a.value; lists = b.value; protos = p }) b.mid b.left h to rest = gave b.two in
    let x : Ran (string limit) (λ source. lines >>= λ between. sizes >>= λ three. give (record { source = source; lines = between; sizes = three })) at s a.value a.mid a.left = ran a.one in
    let y : Ran lines (λ between. sizes >>= λ three. give (record { source = x.value; lines = between; sizes = three })) x.mid x.left a.value a.mid a.left = ran x.two in
    let z : Gave sizes (λ three. record { source = x.value; lines = y.value; sizes = three }) y.mid y.left a.value a.mid a.left = gave y.two in
    let same : x.value ≡ h.front.source = ap (λ (f : Front). f.source) z.is ∙ ap (λ (h : Head). h.front.source) c.is in
    record { to = x.mid; rest = x.left; is = x.one ∙ ap (λ t. ok t x.mid x.left) same }
