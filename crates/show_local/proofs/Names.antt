-- A local variable and its name, in the code's terms.
-- Assumes nothing.
use Rattle.std.specs.Prelude as prelude
use Rattle.std.specs.Prelude.{Some, None, Ok, Err}
use mathlib.Core.Path.{◌≡◌, refl, sym, ◌∙◌, ap}
use mathlib.Core.Bool.{true, false, cond}
use mathlib.Core.List.{[], ◌∷◌, ◌++◌}
use mathlib.Core.Option.{Option, none, some}
use Prim.Native.Nat.{ℕ, ◌-◌, ◌≤◌, ◌<◌}
use native.Mathlib.Omega.{arith}
use borrow.Author.Tests.{le-leb, lt-leb}
use lib.Dec.{leb}
use lib.ListN.{length, take, drop, set, length-drop}
use lib.Seq.{length-take-le}
use Rattle.format.specs.declared.limits.ResourceLimits.{ResourceLimits}
use Rattle.format.specs.declared.refusal.Refusal.{Refusal}
use Rattle.format.specs.declared.refusal.Refusal.TheVariants.{LentSpace}
use Rattle.format.specs.Form.{Bytes}
use Rattle.format.specs.GrammarFields.{LuaString}
use Rattle.format.specs.Reading.{LocalVar}
use Rattle.format.specs.Read.{ok}
use Rattle.format.specs.ReadChunk.{read}
use Rattle.format.proofs.Located.{StandsIf}
use Rattle.slice.specs.declared.cursor.Cursor.{Cursor}
use Rattle.slice.specs.Shown.{cursor_at}
use Rattle.read_field.specs.declared.string.StringAt.{StringAt}
use Rattle.read_field.specs.Shown.{option_string}
use Rattle.read_entry.specs.Readers.{RawLocal}
use Rattle.read_entry.specs.declared.debug.LocalAt.{LocalAt}
use Rattle.read_entry.specs.Inner.Counts.{named}
use Rattle.read_entry.specs.Shown as lists
use Rattle.slice.specs.Inner.Splice.{splice}
use Rattle.slice.proofs.Splices.{splice_front, splice_set}
use Rattle.read_nth.specs.Inner.Nth.{local_at}
use Rattle.read_nth.proofs.Items.{local_nth}
use Rattle.read_nth.proofs.Strings.{local_stands}
use Rattle.show_row.specs.declared.place.EntryKind.TheVariants as kind
use Rattle.show_row.specs.Asked.{found, function_of, entry_of}
use Rattle.show_local.specs.Locals.{shown_local, name_written}
use Rattle.show_local.specs.Inner.Names.{name_length, name_bytes, Stands}
use Rattle.show_row.specs.Inner.Places.{shown_place}
use Rattle.show_row.proofs.Found.{entry_refused, entry_there}

-- the name of a variable, as it is spelt and as it is shown
record SameName (s : Bytes) (name : prelude.Option StringAt) (l : LocalVar) : Type 0 where
  size : name_length name ≡ length l.name.bytes
  bytes : name_bytes name s ≡ l.name.bytes
  stands : Stands name (length s)

same_name : (s : Bytes) (spelt : Option LuaString) (behind startpc endpc : ℕ) → StandsIf s spelt
    → SameName s (option_string spelt) (named (record { name = spelt; behind = behind; startpc = startpc; endpc = endpc }))
same_name s none behind startpc endpc h = record { size = refl; bytes = refl; stands = tt }
same_name s (some t) behind startpc endpc h = record { size = refl; bytes = h.there; stands = h.inside }

-- ## What is written
module _ (s old : Bytes) (name : prelude.Option StringAt) where
  pub put_some : (t : StringAt) → name ≡ Some t → Stands name (length s) → (new : Bytes) → new ≡ splice 0 (take t.len (drop t.place s)) old → new ≡ name_bytes name s ++ drop (name_length name) old
  put_some t is stands new e =
      let inside : t.len ≤ length s - t.place = rw is at stands in
      let size : length (take t.len (drop t.place s)) ≡ t.len = length-take-le t.len (drop t.place s) (rw length-drop inside) in
      e ∙ splice_front (take t.len (drop t.place s)) old ∙ rw (size, is)

  pub put-none : name ≡ None → 0 < length old → set old 0 63 ≡ name_bytes name s ++ drop (name_length name) old
  put-none is h = splice_set 0 63 old h ∙ splice_front (63 ∷ []) old ∙ rw is

-- ## The call
module _ (L : ResourceLimits) (s : Bytes) (f i : ℕ) where
  -- the list is refused: so is the variable, and nothing is written
  pub local-refused : (old : Bytes) (q : Refusal) → Err q ≡ shown_place kind.Local i (function_of f (read L s))
      → (Err q ≡ shown_local (length old) (entry_of (λ p. p.loc_vars) f i (read L s))) × (old ≡ name_written old (entry_of (λ p. p.loc_vars) f i (read L s)))
  local-refused old q e =
      let is = entry_refused L s f i kind.Local (λ p. p.loc_vars) (λ p. p.places.loc_vars) (λ p. refl) q e in
      (sym (ap (shown_local (length old)) is), sym (ap (name_written old) is))

  module _ (c : Cursor) (there : Ok c ≡ shown_place kind.Local i (function_of f (read L s))) where
    abbrev limit : ℕ
    limit = L.max_string_bytes

    -- the variable of the reading, and what is read where the list stands
    record Variable : Type 0 where
      value : LocalVar
      is : entry_of (λ p. p.loc_vars) f i (read L s) ≡ found value
      raw : RawLocal
      to : ℕ
      rest : Bytes
      reads : local_at i limit c.at (drop c.at s) ≡ ok raw to rest
      names : named raw ≡ value
      stands : StandsIf s raw.name

    variable : Variable
    variable =
        let x = entry_there L s f i kind.Local (λ p. p.loc_vars) (λ p. p.places.loc_vars) (λ p. refl) c there in
        let l = local_nth (length x.proto.loc_vars) limit x.located.loc_vars i x.item in
        record {
          value = x.value;
          is = x.is;
          raw = l.raw;
          to = l.found.to;
          rest = l.found.rest;
          reads = ap (λ at. local_at i limit at (drop at s)) x.place ∙ l.found.is;
          names = l.is;
          stands = local_stands s limit i l.found;
        }

    -- it cannot be refused here
    pub local-read : {A : Type 0} (q : Refusal) → Err q ≡ lists.local_result (local_at i limit c.at (drop c.at s)) → A
    local-read q e =
        let v = variable in
        let same = e ∙ ap lists.local_result v.reads in
        absurd (let z : ◌≡◌ {A = ℕ} 0 1 = cc in omega arith)

    module _ (l : LocalAt) (next : Cursor) (e : Ok (l, next) ≡ lists.local_result (local_at i limit c.at (drop c.at s))) where
      record Shown : Type 0 where
        value : LocalVar
        is : entry_of (λ p. p.loc_vars) f i (read L s) ≡ found value
        same : SameName s l.name value
        start : l.startpc ≡ value.startpc
        end : l.endpc ≡ value.endpc

      shown : Shown
      shown =
          let v = variable in
          let both : ◌≡◌ {A = LocalAt × Cursor} (l, next) (lists.local_at v.raw, cursor_at v.to) = let same = e ∙ ap lists.local_result v.reads in cc in
          let shows : l ≡ lists.local_at v.raw = ap (λ p. p.0) both in
          let of-raw = same_name s v.raw.name v.raw.behind v.raw.startpc v.raw.endpc v.stands in
          let is-raw : SameName s l.name (named v.raw) = rw (ap (λ l. l.name) shows) of-raw in
          record {
            value = v.value;
            is = v.is;
            same = rw v.names at is-raw;
            start = ap (λ l. l.startpc) shows ∙ ap (λ l. l.startpc) v.names;
            end = ap (λ l. l.endpc) shows ∙ ap (λ l. l.endpc) v.names;
          }

      pub name_stands : Stands l.name (length s)
      name_stands = shown.same.stands

      -- the lent space is shorter than the name
      pub local-short : (old : Bytes) → length old < name_length l.name
          → (Err LentSpace ≡ shown_local (length old) (entry_of (λ p. p.loc_vars) f i (read L s))) × (old ≡ name_written old (entry_of (λ p. p.loc_vars) f i (read L s)))
      local-short old h =
          let v = shown in
          let none : leb (length v.value.name.bytes) (length old) ≡ false = lt-leb _ _ (rw v.same.size at h) in (
            sym (ap (shown_local (length old)) v.is ∙ ap (λ b. cond b (Ok (record { name_len = length v.value.name.bytes; startpc = v.value.startpc; endpc = v.value.endpc })) (Err LentSpace)) none),
            sym (ap (name_written old) v.is ∙ ap (λ b. cond b (v.value.name.bytes ++ drop (length v.value.name.bytes) old) old) none),
          )

      -- the name is written
      pub local-shown : (old new : Bytes) → name_length l.name ≤ length old → new ≡ name_bytes l.name s ++ drop (name_length l.name) old
          → (Ok (record { name_len = name_length l.name; startpc = l.startpc; endpc = l.endpc }) ≡ shown_local (length old) (entry_of (λ p. p.loc_vars) f i (read L s))) × (new ≡ name_written old (entry_of (λ p. p.loc_vars) f i (read L s)))
      local-shown old new h e =
          let v = shown in
          let room : leb (length v.value.name.bytes) (length old) ≡ true = le-leb _ _ (rw v.same.size at h) in (
            (λ j. Ok (record { name_len = v.same.size j; startpc = v.start j; endpc = v.end j }))
                ∙ sym (ap (shown_local (length old)) v.is ∙ ap (λ b. cond b (Ok (record { name_len = length v.value.name.bytes; startpc = v.value.startpc; endpc = v.value.endpc })) (Err LentSpace)) room),
            e
                ∙ (λ j. v.same.bytes j ++ drop (v.same.size j) old)
                ∙ sym (ap (name_written old) v.is ∙ ap (λ b. cond b (v.value.name.bytes ++ drop (length v.value.name.bytes) old) old) room),
          )
