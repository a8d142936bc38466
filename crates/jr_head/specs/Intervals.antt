-- The MCUs of the restart intervals of a scan (T.81, E.1.4 and E.2.4).
use Rattle.std.specs.Prelude.{ℕ, ◌-◌, ◌*◌, ◌/◌, ◌%◌, ◌==◌, min, if◌then◌else◌}
use Rattle.std.specs.Int.{div_ceil}
use Rattle.jr_head.specs.HeadValue.{HeadValue}
use Rattle.jr_head.specs.Geometry.{mcus_of}

-- the number of intervals: one if the restart interval is 0
abbrev pub intervals_of : HeadValue → ℕ
intervals_of h = if h.restart == 0 then 1 else div_ceil (mcus_of h) h.restart

-- the number in its scan of the first MCU of interval i
abbrev pub first_mcu_of : HeadValue → ℕ → ℕ
first_mcu_of h i = i * h.restart

-- the number of MCUs of interval i: the restart interval, or the rest
abbrev pub mcus_in : HeadValue → ℕ → ℕ
mcus_in h i = if h.restart == 0 then mcus_of h else min h.restart (mcus_of h - i * h.restart)

-- the interval that holds an MCU, and the MCU's number in it
abbrev pub interval_number : HeadValue → ℕ → ℕ
interval_number h mcu = if h.restart == 0 then 0 else mcu / h.restart

abbrev pub within_interval : HeadValue → ℕ → ℕ
within_interval h mcu = if h.restart == 0 then mcu else mcu % h.restart
