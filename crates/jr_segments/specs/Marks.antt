-- Marks that determine the colours: a rule of this project, after JFIF and Adobe's APP14.
use Rattle.std.specs.Prelude.{ℕ, ◌==◌, Bool, false, ◌&&◌, not, nat_le, nat_eq, List, [], ◌∷◌, length, codes, ◌++◌, Option, Some, None, is_some, if◌then◌else◌}
use Rattle.std.specs.List.{starts_with}
use Rattle.std.specs.Option.{option_and_then, option_map_or}
use Rattle.jr_base.specs.declared.marker.TheConstants.{APP0, APP14}
use Rattle.jr_segments.specs.declared.kind.Kind.{Kind}
use Rattle.jr_segments.specs.declared.kind.Kind.TheVariants.{Grey, Rgb, Ycc}
use Rattle.jr_segments.specs.Bytes.{byte}
use Rattle.jr_segments.specs.Tables.{last_where}
use Rattle.jr_segments.specs.Segments.{Segment}

-- "JFIF" and 0
abbrev pub has_jfif_mark : List ℕ → Bool
has_jfif_mark p = starts_with nat_eq p (codes "JFIF" ++ 0 ∷ [])

abbrev pub has_adobe_mark : List ℕ → Bool
has_adobe_mark p = nat_le 12 (length p) && starts_with nat_eq p (codes "Adobe")

abbrev pub transform_of : List ℕ → Option ℕ
transform_of p = if has_adobe_mark p then Some (byte 11 p) else None

abbrev pub kind_by : Bool → Bool → Option ℕ → Kind
kind_by is_single is_jfif transform = if is_single then Grey else (if option_map_or (λ t. t == 0) transform false && not is_jfif then Rgb else Ycc)

abbrev pub is_jfif : Segment → Bool
is_jfif i = i.code == APP0 && has_jfif_mark i.payload

abbrev pub is_adobe : Segment → Bool
is_adobe i = i.code == APP14 && has_adobe_mark i.payload

-- the transform byte of the last Adobe mark
unfoldable pub transform_in : List Segment → Option ℕ
transform_in segments = option_and_then (λ i. transform_of i.payload) (last_where is_adobe segments)

abbrev pub kind_of : List Segment → Bool → Kind
kind_of segments is_single = kind_by is_single (is_some (last_where is_jfif segments)) (transform_in segments)
