use Rattle.std.proofs.Common.{◌≡◌, ℕ, ◌+◌, ◌<◌, ◌%◌, List, [], ◌∷◌, ◌++◌, ◌∙◌, length, map, take, get_or, sym, ap, subst, arith}
use Rattle.std.proofs.Math.Nat.{mod-lt}
use Rattle.std.proofs.lemmas.List.{length-map, length-take-le, map-append, take_more}
use Rattle.vt_key.specs.promise.Times.{TimeBefore, at, ticks_of}
use Rattle.vt_model.specs.promise.Sends.{SendRequest}
use Rattle.vt_model.specs.inside.Sends.{Outgoing, with_requests}
use Rattle.vt_model.proofs.Sizes.{out_fits}
use Rattle.vt_model.proofs.RequestLemmas.{no_requests, sent_after}
use Rattle.vt_parts.specs.inside.Sending.{entry_send, entry_sends}
use Rattle.vt_parts.proofs.sending.send_all.Goals as goal

pub entries-init : goal.entries-init
entries-init g c = no_requests c.args.out.now

pub send-requires : goal.send-requires
send-requires g c =
    let o = c.args.out.now in
    let i = c.entries.entry-index in
    let xs = c.args.entries.now in
    let here : i < length xs = c.entries-test.true in
    let entry = get_or xs i 0 in
    let many : length (entry_sends o.lps c.args.delay c.args.priority c.args.payload (take i xs)) ≡ i =
    length-map (take i xs) (entry_send o.lps c.args.delay c.args.priority c.args.payload) ∙ length-take-le i xs (omega (arith, here)) in
    let lps : c.entries.out.lps ≡ o.lps = ap (λ (w : Outgoing _). w.lps) c.entries.invariant in
    let time : c.entries.out.time ≡ o.time = ap (λ (w : Outgoing _). w.time) c.entries.invariant in
    let first : c.entries.out.first ≡ o.first = ap (λ (w : Outgoing _). w.first) c.entries.invariant in
    let number : c.entries.out.number ≡ o.number + length (entry_sends o.lps c.args.delay c.args.priority c.args.payload (take i xs)) = ap (λ (w : Outgoing _). w.number) c.entries.invariant in
    let below : entry % c.lps-lps.result < c.lps-lps.result = mod-lt entry (omega (arith, c.lps-lps.ensures, c.requires.some)) in (
      out_fits _ _ c.requires.align c.requires.size,
      (
        omega (arith, below, lps, c.lps-lps.ensures),
        (
          subst (λ (t : ℕ). TimeBefore t (at (ticks_of t + c.args.delay) c.args.priority)) (sym time) c.requires.later,
          omega (arith, first, number, many, here, c.requires.room),
        ),
      ),
    )

pub entries-preserved : goal.entries-preserved
entries-preserved g c =
    let o = c.args.out.now in
    let i = c.entries.entry-index in
    let xs = c.args.entries.now in
    let f = entry_send o.lps c.args.delay c.args.priority c.args.payload in
    let here : i < length xs = c.entries-test.true in
    let entry = get_or xs i 0 in
    let sent : with_requests c.entries.out (record { dest = entry % c.lps-lps.result; delay = c.args.delay; priority = c.args.priority; payload = c.args.payload } ∷ []) [] ≡ with_requests c.entries.out (f entry ∷ []) [] =
    ap (λ (n : ℕ). with_requests c.entries.out (record { dest = entry % n; delay = c.args.delay; priority = c.args.priority; payload = c.args.payload } ∷ []) []) c.lps-lps.ensures in
    let more : map f (take (i + 1) xs) ≡ map f (take i xs) ++ f entry ∷ [] = ap (map f) (take_more xs i 0 here) ∙ map-append f (take i xs) (entry ∷ []) in
    sent_after o c.entries.out c.send.new.self (map f (take i xs)) [] (f entry) c.entries.invariant (c.send.ensures ∙ sent)
    ∙ ap (λ (ys : List (SendRequest _)). with_requests o ys []) (sym more)
