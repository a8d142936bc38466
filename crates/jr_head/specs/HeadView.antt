-- What contracts see of a `Head`, and what its fields keep.
use Rattle.std.specs.Prelude.{◌≡◌}
use Rattle.jr_head.specs.declared.head.Head.TheInside.{Inside}
use Rattle.jr_head.specs.HeadValue.{HeadValue}
use Rattle.jr_head.specs.Geometry.{IsValid, order_of, horizontal_max, vertical_max}

abbrev pub head_value : Inside → HeadValue
head_value h = record { width = h.width; height = h.height; kind = h.kind; components = h.components.items; restart = h.restart; scan_at = h.scan_at }

pub record KeepsHead (h : Inside) : Type 0 where
  pub valid : IsValid (head_value h)
  pub order : h.order.items ≡ order_of (head_value h)
  pub horizontal : h.horizontal_max ≡ horizontal_max (head_value h)
  pub vertical : h.vertical_max ≡ vertical_max (head_value h)
