-- Believed: the order of refusals of pick, settled question and report.
use Rattle.std.specs.Prelude.{List, ℕ, ltb, Ok}
use Rattle.refusal.specs.Numbers.{no_such_atom}
use Rattle.refusal.specs.Checks.{Checked, asking, or_else}
use Rattle.words.specs.Check.{table_too_long_fault, table_check}
use Rattle.records.specs.declared.MarkRecord.{MarkRecord}
use Rattle.records.specs.Records.{record_fault}
use Rattle.values.specs.Values.{room_too_small}

-- 16: picked atom not below N
abbrev pub atom_fault : ℕ → ℕ → Checked
atom_fault N a = asking (ltb a N) no_such_atom (Ok tt)

-- pick: 1, 17, 2, words, 16
unfoldable pub pick_fault : MarkRecord → List ℕ → ℕ → Checked
pick_fault r t a = or_else (record_fault r) (or_else (table_check r.n t) (atom_fault r.n a))

-- settled: 1, 17, 2, words
unfoldable pub settled_fault : MarkRecord → List ℕ → Checked
settled_fault r t = or_else (record_fault r) (table_check r.n t)

-- report: 1, 17, 2, 3, words (18 comes last)
unfoldable pub report_fault : MarkRecord → List ℕ → ℕ → Checked
report_fault r t room = or_else (record_fault r) (or_else (table_too_long_fault t) (or_else (room_too_small r.n room) (table_check r.n t)))
