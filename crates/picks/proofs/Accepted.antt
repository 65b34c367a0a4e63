-- What it means that no fault was found. Assumes nothing.
use mathlib.Core.List.{List}
use mathlib.Core.Path.{◌≡◌}
use Prim.Native.Nat.{ℕ, ◌≤◌, ◌<◌}
use lib.Dec.{leb, ltb}
use borrow.Author.Tests.{leb-true, ltb-true}
use Rattle.refusal.specs.Checks.{or_else}
use Rattle.words.specs.Check.{table_check, AcceptedTable, table_too_long_fault}
use Rattle.refusal.proofs.Laws.{asking_accepted, or_else_accepted}
use Rattle.refusal.specs.Numbers.{value_room_too_small, no_such_atom}
use Rattle.records.specs.declared.MarkRecord.{MarkRecord}
use Rattle.records.specs.Records.{record_fault}
use Rattle.values.specs.Values.{room_too_small}
use Rattle.picks.specs.Faults.{atom_fault, pick_fault, settled_fault, report_fault}
use Rattle.std.specs.Prelude.{Ok}

pub pick_accepted : (r : MarkRecord) (t : List ℕ) (a : ℕ) → pick_fault r t a ≡ Ok tt
    → (record_fault r ≡ Ok tt) × AcceptedTable r.n t × (a < r.n)
unfolding pick_fault
pick_accepted r t a e =
    let p = or_else_accepted (record_fault r) (or_else (table_check r.n t) (atom_fault r.n a)) e in
    let q = or_else_accepted (table_check r.n t) (atom_fault r.n a) p.1 in
    let s = asking_accepted (ltb a r.n) no_such_atom (Ok tt) q.1 in
    (p.0, q.0, ltb-true a r.n s.0)

pub settled_accepted : (r : MarkRecord) (t : List ℕ) → settled_fault r t ≡ Ok tt → (record_fault r ≡ Ok tt) × AcceptedTable r.n t
unfolding settled_fault
settled_accepted r t e = or_else_accepted (record_fault r) (table_check r.n t) e

pub report_accepted : (r : MarkRecord) (t : List ℕ) (room : ℕ) → report_fault r t room ≡ Ok tt
    → (record_fault r ≡ Ok tt) × AcceptedTable r.n t × (r.n ≤ room)
unfolding report_fault
report_accepted r t room e =
    let p = or_else_accepted (record_fault r) (or_else (table_too_long_fault t) (or_else (room_too_small r.n room) (table_check r.n t))) e in
    let q = or_else_accepted (table_too_long_fault t) (or_else (room_too_small r.n room) (table_check r.n t)) p.1 in
    let s = or_else_accepted (room_too_small r.n room) (table_check r.n t) q.1 in
    let v = asking_accepted (leb r.n room) value_room_too_small (Ok tt) s.0 in
    (p.0, s.1, leb-true r.n room v.0)
