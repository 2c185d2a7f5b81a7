use Rattle.std.proofs.Common.{◌≡◌, ◌≤◌, [], ◌∷◌, ◌∙◌, sym, ap, length, Option, arith, lit<}
use Rattle.vt_model.specs.inside.Sends.{with_requests}
use Rattle.vt_stream.specs.inside.Words.{word_of}
use Rattle.vt_traffic.specs.declared.junction.Road.{Road}
use Rattle.vt_traffic.specs.declared.junction.TheConstants.{WAITING}
use Rattle.vt_traffic.specs.declared.junction.JunctionEvent.{JunctionEvent}
use Rattle.vt_traffic.specs.declared.junction.JunctionEvent.TheVariants.{Leave}
use Rattle.vt_traffic.specs.inside.Junction.{waiting, entered, entry, gone}
use Rattle.vt_traffic.specs.inside.Traffic.{departure, departed, change_after, after_event, own_sends, own_records}
use Rattle.vt_model.proofs.RequestLemmas.{no_requests, record_count, recorded}
use Rattle.vt_traffic.proofs.TrafficSteps.{none_left, with_own, all_asked}
use Rattle.vt_traffic.proofs.grid.TrafficEventModel.forward.Goals as goal
use Rattle.vt_traffic.proofs.grid.TrafficEventModel.forward.Goals.{in-Arrive, in-Leave+in-Some, in-Leave+in_default, in-Change}

pub emit-requires : goal.emit-requires
emit-requires c =
    let o = c.args.out.now in
    let none : length o.records ≡ 0 = ap length c.requires.fresh.records in
    let few : length c.match-payload.out.records ≤ 1 =
    elim c.match-payload.branch [
      | in-Arrive w ↦ omega (arith, ap record_count w.out-is)
      | in-Leave+in-Some w ↦ omega (arith, ap record_count w.out-is, recorded o _ _ _ w.depart.ensures.out)
      | in-Leave+in_default w ↦ omega (arith, ap record_count w.out-is)
      | in-Change w ↦ omega (arith, ap record_count w.out-is, recorded o _ _ _ w.send.ensures)
    ] in
    let no_more = recorded c.match-payload.out _ _ _ c.enter.ensures.out in
    (lit< tt, omega arith)

pub returns-clause-out : goal.returns-clause-out
returns-clause-out c =
    let m = c.args.self.now in
    let lp = c.args.lp in
    let p = c.args.payload in
    let o = c.args.out.now in
    let j = c.args.state.now in
    let words = word_of c.args.draws.now.stream.now in
    let own_out = λ (q : JunctionEvent). with_own m o.lps lp q j words o in
    let left_out = λ (k : Option Road). with_requests o (own_sends m o.lps lp Leave k words) (own_records Leave k (gone k j)) in
    let happened : c.match-payload.state ≡ after_event p j =
    elim c.match-payload.branch [
      | in-Arrive w ↦ w.state-is ∙ w.join.ensures ∙ sym (ap (λ (q : JunctionEvent). after_event q j) w.in-Arrive.is)
      | in-Leave+in-Some w ↦ w.state-is ∙ w.depart.ensures.junction ∙ sym (ap (λ (k : Option Road). gone k j) w.in-Some.is) ∙ sym (ap (λ (q : JunctionEvent). after_event q j) w.in-Leave.is)
      | in-Leave+in_default w ↦ w.state-is ∙ sym (ap (λ (k : Option Road). gone k j) (none_left j.crossing w.in_default.not-Some)) ∙ sym (ap (λ (q : JunctionEvent). after_event q j) w.in-Leave.is)
      | in-Change w ↦ w.state-is ∙ w.change.ensures ∙ sym (ap (λ (q : JunctionEvent). after_event q j) w.in-Change.is)
    ] in
    let own : c.match-payload.out ≡ own_out p =
    elim c.match-payload.branch [
      | in-Arrive w ↦ w.out-is ∙ no_requests o ∙ sym (ap own_out w.in-Arrive.is)
      | in-Leave+in-Some w ↦
          w.out-is ∙ w.depart.ensures.out
          ∙ (λ i. with_requests o (departure m o.lps lp w.in-Some.road words ∷ []) (departed (w.depart.ensures.junction i) ∷ []))
          ∙ sym (ap left_out w.in-Some.is)
          ∙ sym (ap own_out w.in-Leave.is)
      | in-Leave+in_default w ↦ w.out-is ∙ no_requests o ∙ sym (ap left_out (none_left j.crossing w.in_default.not-Some)) ∙ sym (ap own_out w.in-Leave.is)
      | in-Change w ↦ w.out-is ∙ w.send.ensures ∙ (λ i. with_requests o (change_after lp (w.from.ensures i) ∷ []) []) ∙ sym (ap own_out w.in-Change.is)
    ] in
    let enters = c.enter.ensures.out ∙ (λ i. with_requests c.match-payload.out (entry lp (happened i)) []) in
    let waits : c.waiting.result ≡ waiting (entered (after_event p j)) = c.waiting.ensures ∙ ap waiting (c.enter.ensures.junction ∙ ap entered happened) in
    let tells = c.emit.ensures ∙ (λ i. with_requests c.enter.new.out [] (record { kind = WAITING; value = waits i } ∷ [])) in
    all_asked m o.lps lp p j words o c.match-payload.out c.enter.new.out c.emit.new.self own enters tells
