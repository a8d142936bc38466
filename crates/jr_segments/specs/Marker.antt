-- The codes of the markers that may occur before the scan (T.81, table B.1).
use Rattle.std.specs.Prelude.{ℕ, ◌+◌}
use Rattle.jr_base.specs.declared.marker.TheConstants.{APP0, COM, DHT, DQT, DRI, SOF0, SOF1, SOS}
use Rattle.jr_segments.specs.declared.marker.Marker.{Marker}
use Rattle.jr_segments.specs.declared.marker.Marker.TheVariants.{Sof0, Sof1, Dht, Dqt, Dri, Sos, App, Com}

abbrev pub code_of : Marker → ℕ
code_of Sof0 = SOF0
code_of Sof1 = SOF1
code_of Dht = DHT
code_of Dqt = DQT
code_of Dri = DRI
code_of Sos = SOS
code_of (App n) = APP0 + n
code_of Com = COM
