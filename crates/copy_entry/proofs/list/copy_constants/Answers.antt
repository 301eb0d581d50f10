-- `copy_entry::list::copy_constants` meets its contract. The invariant: what all entries show those left show (`Turns.antt` of read_entry), and whoever puts those left has put them all (`Lists.antt`). Assumes nothing.
use Rattle.std.proofs.lemmas.Result.{err_from_is_err_and}
use Prim.Native.Nat.{◌-◌}
use native.Mathlib.Omega.{arith}
use lib.ListN.{drop}
use Rattle.format.specs.ReadChunk.{constant}
use Rattle.format.specs.Copy.{constant_bytes}
use Rattle.format.proofs.ExactChunk.{exact_constant}
use Rattle.read_field.proofs.Shows.{cursor_err, cursor_ok}
use Rattle.read_entry.proofs.Turns as passing
use Rattle.copy_entry.proofs.Lists.{starts, turns, ends}
use Rattle.copy_entry.proofs.list.copy_constants.Goals as goal

pub loop-init : goal.loop-init
loop-init c = let a = c.args in (passing.begins (constant a.max_string_bytes) a.s.now a.count a.cursor.at (omega arith), λ bytes. starts (constant a.max_string_bytes) constant_bytes (exact_constant a.max_string_bytes) a.s.now (omega arith))

pub returns-in_err-passed : goal.returns-in_err-passed
returns-in_err-passed c =
    let a = c.args in
    let l = c.loop in
    let at = l.passed.next.at in
    let one = cursor_err ((constant a.max_string_bytes) at (drop at a.s.now)) _ c.in_err-passed.ensures.read_value in
    let p = err_from_is_err_and c.from_residual.result c.from_residual.ensures.1 in
    rw (p.1, p.2) (record {
      read_value = passing.stops (constant a.max_string_bytes) a.s.now a.count a.cursor.at (a.count - l.counter) at l.invariant.0 (omega arith) _ one;
      puts_all = λ bytes. tt;
    })

pub loop-preserved : goal.loop-preserved
loop-preserved c =
    let a = c.args in
    let l = c.loop in
    let at = l.passed.next.at in
    let one = cursor_ok ((constant a.max_string_bytes) at (drop at a.s.now)) _ c.in_ok-passed.ensures.read_value in (
      passing.goes_on_lem (constant a.max_string_bytes) a.s.now a.count a.cursor.at (a.count - l.counter) at l.invariant.0 (omega arith) (exact_constant a.max_string_bytes) one.was,
      λ bytes. turns (constant a.max_string_bytes) constant_bytes (exact_constant a.max_string_bytes) a.s.now (l.invariant.1 bytes) (omega arith) (c.in_ok-passed.ensures.puts bytes),
    )

pub returns : goal.returns
returns c =
    let a = c.args in
    let l = c.loop in
    record {
      read_value = passing.ends (constant a.max_string_bytes) a.s.now a.count a.cursor.at (a.count - l.counter) l.passed.next.at l.invariant.0 (omega arith);
      puts_all = λ bytes. ends (constant a.max_string_bytes) constant_bytes (exact_constant a.max_string_bytes) a.s.now (l.invariant.1 bytes) c.put_varint.ensures (omega arith);
    }
