-- Send and Fetch on a kernel and an inbox, by what the kernel's calls do and refuse.
use Rattle.std.proofs.Common.{◌≡◌, ℕ, ◌+◌, inl, inr, true, List, [], ◌++◌, refl, sym, ◌∙◌, ap, subst, arith, Result, Ok, Err, IfOk, IfErr}
use Rattle.vt_key.specs.declared.letter.Colour.TheVariants.{White, Red}
use Rattle.vt_key.specs.declared.letter.Mail.{Mail}
use Rattle.vt_key.specs.declared.fault.Fault.{Fault}
use Rattle.vt_model.specs.promise.Handler.{Handlers}
use Rattle.vt_model.specs.promise.Simulation.{Simulation, simulation_of}
use Rattle.vt_steps.specs.declared.step.Step.TheVariants.{Send, Fetch}
use Rattle.vt_steps.specs.declared.step.Reply.TheVariants.{Done}
use Rattle.vt_steps.specs.promise.Letters.{Counts, count_colour, is_empty}
use Rattle.vt_steps.specs.promise.World.{Part}
use Rattle.vt_steps.specs.promise.PartSteps.{part_after_send, mail_of_send, part_after_fetch}
use Rattle.vt_steps.specs.inside.Cells.{in_inbox, Acted}
use Rattle.vt_steps.specs.promise.CellSteps.{may_send}
use Rattle.vt_kernel.specs.inside.Held.{HeldWorker, StandsFor, AreCounted}
use Rattle.vt_kernel.specs.inside.Guards.{IsSendRefusal}
use Rattle.vt_kernel.specs.promise.Refusals.{PassesIn}
use Rattle.vt_kernel.specs.inside.Steps.{held_after_send, held_after_fetch, IsTakeRefusal}
use Rattle.vt_cells.specs.inside.Calls.{IsCellRefusal, IsCellStepOf, answer_as, rounds_of}
use Rattle.vt_cells.proofs.ActLemmas.{act-send, act-not_send, act-fetch, act-not_fetch}

module _ {S P : Type 0} (sim : Simulation S P) where
  -- why Send is refused
  send-why : (w v : ℕ) (part : Part P) (mails : List (Mail P)) (fault : Fault) → IsSendRefusal sim w v part fault → IsCellRefusal sim (Send w v) part (in_inbox mails) fault
  send-why w v part mails fault (inl a) = inl (ap (λ (x : Acted P). x.answer) (act-not_send sim w v part mails a.1) ∙ ap Err (sym a.0))
  send-why w v part mails fault (inr a) =
      let is = act-send sim w v part mails a.0 in
      inr (
        Done,
        ap (λ (x : Acted P). x.answer) is,
        elim a.1 [
          | inl b ↦ inl (b.0, subst (λ (x : Acted P). PassesIn sim (Send w v) x.part (rounds_of x.cell)) (sym is) b.1)
          | inr b ↦ inr (
            b.0,
            tt,
            λ h. b.1 (subst (λ (x : Acted P). PassesIn sim (Send w v) x.part (rounds_of x.cell)) is h),
          )
        ],
      )

  -- how much a worker has got after a fetch
  got-after : (mails : List (Mail P)) (part : Part P) → ((part_after_fetch mails part).got.white ≡ part.got.white + count_colour White mails) × ((part_after_fetch mails part).got.red ≡ part.got.red + count_colour Red mails)
  unfolding part_after_fetch
  got-after mails part = (refl, refl)

  -- why Fetch is refused
  fetch-why : (w : ℕ) (part : Part P) (mails : List (Mail P)) (fault : Fault) → IsTakeRefusal part.arrived part.got mails fault → IsCellRefusal sim (Fetch w) part (in_inbox mails) fault
  fetch-why w part mails fault (inl a) = inl (ap (λ (x : Acted P). x.answer) (act-not_fetch sim w part mails a.1) ∙ ap Err (sym a.0))
  fetch-why w part mails fault (inr a) =
      let is = act-fetch sim w part mails a.1 in
      let got = got-after mails part in
      let white = got.0 in
      let red = got.1 in
      inr (
        Done,
        ap (λ (x : Acted P). x.answer) is,
        inl (
          a.0,
          subst (λ (x : Acted P). PassesIn sim (Fetch w) x.part (rounds_of x.cell)) (sym is)
              (elim a.2 [
                | inl b ↦ inl (omega (arith, b, white))
                | inr b ↦ inr (omega (arith, b, red))
              ]),
        ),
      )

module _ {S P K : Type 0} (handlers : Handlers S P K) (old new : HeldWorker S P K) where
  -- a send that the kernel did or refused
  pub send-step : (v : ℕ) (mails left : List (Mail P)) {X : Type 0} (result : Result X Fault) → IfOk result (λ _. new ≡ held_after_send v old)
      → ((part : Part P) → StandsFor handlers old part → IfOk result (λ _. (may_send (simulation_of handlers old.config).workers old.worker v part.outbox ≡ true)
      × StandsFor handlers new (part_after_send (simulation_of handlers old.config) v part) × (left ≡ mails ++ mail_of_send (simulation_of handlers old.config) v part)))
      → ((part : Part P) → StandsFor handlers new part → IfOk result (λ _. PassesIn (simulation_of handlers old.config) (Send old.worker v) part 0 → ⊥))
      → ((part : Part P) → StandsFor handlers old part → IfErr result (IsSendRefusal (simulation_of handlers old.config) old.worker v part)) → IfErr result (λ _. (new ≡ old) × (left ≡ mails))
      → IsCellStepOf handlers old.config (Send old.worker v) old new (in_inbox mails) (in_inbox left) (answer_as (λ _. Done) result)
  send-step v mails left (Ok x) is does few why kept = record {
    done = record {
      acts = λ part s.
          (let sim = simulation_of handlers old.config in
          let d = does part s in (
            part_after_send sim v part,
            act-send sim old.worker v part mails d.0 ∙ ap (λ (l : List (Mail P)). record { part = part_after_send sim v part; cell = in_inbox l; answer = Ok Done }) (sym d.2),
            d.1,
          ));
      worker = ap (λ (k : HeldWorker S P K). k.worker) is;
      config_is = ap (λ (k : HeldWorker S P K). k.config) is;
    };
    within = few;
    refused = λ part s. tt;
    unchanged = tt;
  }
  send-step v mails left (Err fault) is does few why kept = record {
    done = tt;
    within = λ part s. tt;
    refused = λ part s. send-why (simulation_of handlers old.config) old.worker v part mails fault (why part s);
    unchanged = (kept.0, ap in_inbox kept.1);
  }

  -- a fetch that the kernel did or refused
  pub fetch-step : (mails left : List (Mail P)) {X : Type 0} (result : Result X Fault) → IfOk result (λ _. new ≡ held_after_fetch mails old) → IfOk result (λ _. left ≡ [])
      → IfOk result (λ _. (is_empty old.arrived ≡ true) × AreCounted new.got)
      → ((part : Part P) → StandsFor handlers old part → IfOk result (λ _. (is_empty part.arrived ≡ true) × StandsFor handlers new (part_after_fetch mails part)))
      → IfErr result (IsTakeRefusal old.arrived old.got mails) → IfErr result (λ _. (new ≡ old) × (left ≡ mails))
      → IsCellStepOf handlers old.config (Fetch old.worker) old new (in_inbox mails) (in_inbox left) (answer_as (λ _. Done) result)
  fetch-step mails left (Ok x) is none lawful does why kept = record {
    done = record {
      acts = λ part s.
          (let sim = simulation_of handlers old.config in
          let d = does part s in (
            part_after_fetch mails part,
            act-fetch sim old.worker part mails d.0 ∙ ap (λ (l : List (Mail P)). record { part = part_after_fetch mails part; cell = in_inbox l; answer = Ok Done }) (sym none),
            d.1,
          ));
      worker = ap (λ (k : HeldWorker S P K). k.worker) is;
      config_is = ap (λ (k : HeldWorker S P K). k.config) is;
    };
    within = λ part s over.
        (let white = ap (λ (c : Counts). c.white) s.got in
        let red = ap (λ (c : Counts). c.red) s.got in
        let few_white = lawful.1.white in
        let few_red = lawful.1.red in
        elim over [
          | inl a ↦ omega (arith, a, white, few_white)
          | inr b ↦ omega (arith, b, red, few_red)
        ]);
    refused = λ part s. tt;
    unchanged = tt;
  }
  fetch-step mails left (Err fault) is none lawful does why kept = record {
    done = tt;
    within = λ part s. tt;
    refused = λ part s.
        fetch-why (simulation_of handlers old.config) old.worker part mails fault
        (subst (λ (x : List (Mail P) × Counts). IsTakeRefusal x.0 x.1 mails fault) (λ i. (sym s.arrived i, sym s.got i)) why);
    unchanged = (kept.0, ap in_inbox kept.1);
  }
