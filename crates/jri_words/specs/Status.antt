-- Exit statuses.
use Rattle.std.specs.Prelude.{ℕ, Bool, ◌==◌, if◌then◌else◌}
use Rattle.jr_picture.specs.declared.report.Report.{Report}
use Rattle.jr_picture.specs.declared.report.Fault.{Fault}
use Rattle.jr_picture.specs.declared.report.Fault.TheVariants as fault

abbrev pub status_of_fault : Fault → ℕ
status_of_fault fault.Read = 1
status_of_fault (fault.Refused refusal) = 2
status_of_fault fault.Memory = 1
status_of_fault fault.Write = 1
status_of_fault fault.NoFile = 1

-- the image was written: 3 if an interval is damaged; 1 if the flush failed
abbrev pub status_of_report : Report → Bool → ℕ
status_of_report report failed = if failed then 1 else (if report.damaged == 0 then 0 else 3)
