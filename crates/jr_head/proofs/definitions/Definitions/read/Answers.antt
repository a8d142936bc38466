use Rattle.std.proofs.Common.{refl, inl, inr, sym, ap, ◌∙◌, arith}
use Rattle.std.proofs.lemmas.Result.{on_ok_weaker}
use Rattle.jr_segments.specs.Marker.{code_of}
use Rattle.jr_head.proofs.DefinitionLaws.{quantisers_in_force, books_in_force, restart_in_force, jfif_in_force, adobe_in_force, at_frame, both_ok, adobe_some, adobe_none}
use Rattle.jr_head.proofs.MarkerLaws.{app_in_force, com_in_force}
use Rattle.jr_head.proofs.definitions.Definitions.read.Goals as goal

pub returns-in-Dqt-clause-in_force : goal.returns-in-Dqt-clause-in_force
returns-in-Dqt-clause-in_force c =
    on_ok_weaker c.define_quantisers.result (λ f. λ segments fill k. quantisers_in_force segments c.args.self.now fill (code_of c.args.marker) c.args.payload.now c.define_quantisers.new.places (ap code_of c.in-Dqt.is) k f)
    c.define_quantisers.ensures.defined

pub returns-in-Dht-clause-in_force : goal.returns-in-Dht-clause-in_force
returns-in-Dht-clause-in_force c =
    both_ok c.define_huffman_tables.result (λ f g. λ segments fill k. books_in_force segments c.args.self.now fill (code_of c.args.marker) c.args.payload.now c.define_huffman_tables.new.dc c.define_huffman_tables.new.ac (ap code_of c.in-Dht.is) k f g)
    c.define_huffman_tables.ensures.dc c.define_huffman_tables.ensures.ac

pub returns-in_ok-self-in-Dri-clause-in_force : goal.returns-in_ok-self-in-Dri-clause-in_force
returns-in_ok-self-in-Dri-clause-in_force c = λ segments fill k.
    restart_in_force segments c.args.self.now fill (code_of c.args.marker) c.args.payload.now _ (ap code_of c.in-Dri.is) k c.in_ok-self-in-Dri.ensures.value

pub returns-in_ok-read_frame-in-Sof0-clause-in_force : goal.returns-in_ok-read_frame-in-Sof0-clause-in_force
returns-in_ok-read_frame-in-Sof0-clause-in_force c =
    let f = c.in_ok-read_frame-in-Sof0.ensures in
    λ segments fill k. at_frame segments c.args.self.now _ fill (code_of c.args.marker) c.args.payload.now c.in_ok-read_frame-in-Sof0.field-0 (inl (ap code_of c.in-Sof0.is)) k refl (f.code ∙ sym (ap code_of c.in-Sof0.is)) f.width f.height f.components f.accepted

pub returns-in_ok-read_frame-in-Sof1-clause-in_force : goal.returns-in_ok-read_frame-in-Sof1-clause-in_force
returns-in_ok-read_frame-in-Sof1-clause-in_force c =
    let f = c.in_ok-read_frame-in-Sof1.ensures in
    λ segments fill k. at_frame segments c.args.self.now _ fill (code_of c.args.marker) c.args.payload.now c.in_ok-read_frame-in-Sof1.field-0 (inr (ap code_of c.in-Sof1.is)) k refl (f.code ∙ sym (ap code_of c.in-Sof1.is)) f.width f.height f.components f.accepted

pub returns-then-is_jfif_mark-clause-in_force : goal.returns-then-is_jfif_mark-clause-in_force
returns-then-is_jfif_mark-clause-in_force c = λ segments fill k.
    jfif_in_force segments c.args.self.now fill (code_of c.args.marker) c.args.payload.now _ (omega (arith, ap code_of c.in-App-eq0.is, c.in-App-eq0.field-0-test)) k (rw (sym c.is_jfif_mark.ensures ∙ c.if-is_jfif_mark.true) refl)

pub returns-else-is_jfif_mark-clause-in_force : goal.returns-else-is_jfif_mark-clause-in_force
returns-else-is_jfif_mark-clause-in_force c = λ segments fill k.
    jfif_in_force segments c.args.self.now fill (code_of c.args.marker) c.args.payload.now _ (omega (arith, ap code_of c.in-App-eq0.is, c.in-App-eq0.field-0-test)) k (rw (sym c.is_jfif_mark.ensures ∙ c.if-is_jfif_mark.false) refl)

pub returns-in-Some-clause-in_force : goal.returns-in-Some-clause-in_force
returns-in-Some-clause-in_force c = λ segments fill k.
    adobe_in_force segments c.args.self.now fill (code_of c.args.marker) c.args.payload.now _ (omega (arith, ap code_of c.in-App-eq14.is, c.in-App-eq14.field-0-test)) k (adobe_some c.args.payload.now c.args.self.now.transform c.in-Some.transform c.in-Some.ensures)

pub returns-in_default-clause-in_force : goal.returns-in_default-clause-in_force
returns-in_default-clause-in_force c = λ segments fill k.
    adobe_in_force segments c.args.self.now fill (code_of c.args.marker) c.args.payload.now _ (omega (arith, ap code_of c.in-App-eq14.is, c.in-App-eq14.field-0-test)) k (adobe_none c.args.payload.now c.args.self.now.transform c.in_default.ensures)

pub returns-in-App-clause-in_force : goal.returns-in-App-clause-in_force
returns-in-App-clause-in_force c = λ segments fill k.
    app_in_force segments c.args.self.now fill (code_of c.args.marker) c.args.payload.now _ (ap code_of c.in-App.is) (λ e. omega (arith, e)) (λ e. omega (arith, e)) k

pub returns-in-Com-clause-in_force : goal.returns-in-Com-clause-in_force
returns-in-Com-clause-in_force c = λ segments fill k. com_in_force segments c.args.self.now fill (code_of c.args.marker) c.args.payload.now (ap code_of c.in-Com.is) k
