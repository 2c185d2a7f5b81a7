-- From a claim to a release: what a seat holds in between, and that its place is the same.
use Rattle.std.proofs.Common.{◌≡◌, ℕ, ◌<◌, List, [], ◌∷◌, sym, refl, ◌∙◌, ap, subst, Some, Result, Ok, Err, MatchResult, IfErr}
use Rattle.vt_key.specs.promise.Times.{Time}
use Rattle.vt_key.specs.declared.fault.Fault.{Fault}
use Rattle.vt_key.specs.declared.letter.Mail.{Mail}
use Rattle.vt_model.specs.declared.settings.Config.{Config}
use Rattle.vt_model.specs.promise.Handler.{Handlers}
use Rattle.vt_model.specs.promise.Histories.{IsLawful}
use Rattle.vt_model.specs.promise.Simulation.{Simulation, simulation_of}
use Rattle.vt_steps.specs.declared.step.Step.{Step}
use Rattle.vt_steps.specs.declared.step.Step.TheVariants.{Close}
use Rattle.vt_steps.specs.declared.step.Reply.{Reply}
use Rattle.vt_steps.specs.declared.step.Reply.TheVariants.{Done}
use Rattle.vt_steps.specs.promise.World.{Part, World}
use Rattle.vt_steps.specs.inside.Cells.{inbox_of, Cell, in_inbox, on_board, in_book, content}
use Rattle.vt_steps.specs.inside.Marked.{shown}
use Rattle.vt_kernel.specs.inside.Held.{HeldWorker}
use Rattle.vt_cells.specs.inside.Calls.{answer_as}
use Rattle.vt_places.specs.declared.slot.Slot.{Slot}
use Rattle.vt_places.specs.declared.view.View.{View}
use Rattle.vt_places.specs.declared.place.Place.{Place}
use Rattle.vt_places.specs.inside.Hands.{Hand, holding}
use Rattle.vt_places.specs.inside.Slots.{held_in}
use Rattle.vt_places.specs.inside.Kept.{Sat, Rests}
use Rattle.vt_places.specs.inside.Calls.{Unvisited, Known, Took, TookThere, Holding, IsDoneAt, Closes, Visited, Stays}
use Rattle.vt_places.proofs.Cells.{inbox-name, board-name, book-name, inbox-holds, board-holds, book-holds}

-- a view that differs in its hand alone
abbrev pub WithHand : {P : Type 0} → View P → View P → Type 0
WithHand {P} v w = (hand : Hand P) × (w ≡ record v { hand = hand })

module _ {P : Type 0} where
  pub unvisited-held : (v w : View P) (seen : Time) (after : View P) → WithHand v w → Unvisited w seen after → Unvisited v seen after
  unvisited-held v w seen after h r =
      let x : Unvisited (record v { hand = h.0 }) seen after = subst (λ (y : View P). Unvisited y seen after) h.1 r in
      record {
        steps = record { same = record { worker = x.steps.same.worker; made = x.steps.same.made; waiting = x.steps.same.waiting }; part = x.steps.part; mine = x.steps.mine; log = x.steps.log };
        floor = x.floor;
        rests = x.rests;
      }

  -- a seat whose cell was given back unchanged, and that was shown nothing
  pub stays-held : (v w : View P) (after : View P) → WithHand v w → Unvisited w w.seen after → Stays v after
  stays-held v w after h r = let x = unvisited-held v w w.seen after h r in (x.steps, x.floor ∙ ap (λ (y : View P). y.seen) h.1)

-- what a place knows, and what it did, it knows and did whatever it holds
module _ {S P : Type 0} (sim : Simulation S P) (v : View P) (hand : Hand P) where
  abbrev known-held : (k : ℕ) (cell : Cell P) → Known sim (record v { hand = hand }) k cell → Known sim v k cell
  known-held k cell x = record { log = x.log; right = x.right; within = x.within; part = x.part; mine = x.mine; grows = x.grows; seen = x.seen; shows = x.shows; own = x.own }

  abbrev pub done-held : (steps : List Step) (part : Part P) (step : Step) (reply : Reply) (after : View P) → IsDoneAt sim (record v { hand = hand }) steps part step reply after → IsDoneAt sim v steps part step reply after
  done-held steps part step reply after x =
      record { cell = x.cell; about = x.about; found = x.found; now = x.now; known = known-held x.cell x.found x.known; gives = x.gives; log = x.log }

pub closes-there : {S P : Type 0} (sim : Simulation S P) (v w : View P) (seen end : Time) (after : View P) → WithHand v w → seen ≡ end → Closes sim w seen after → Closes sim v end after
closes-there sim v w seen end after h is r =
    let x : Closes sim (record v { hand = h.0 }) seen after = subst (λ (y : View _). Closes sim y seen after) h.1 r in
    record {
      same = record { worker = x.same.worker; made = x.same.made; waiting = x.same.waiting };
      part = x.part;
      mine = x.mine;
      at = done-held sim v h.0 [] v.part Close Done after x.at;
      floor = x.floor ∙ is;
      rests = x.rests;
    }

module _ {S P K : Type 0} (handlers : Handlers S P K) (config : Config) (v w : View P) (before left : HeldWorker S P K) (step : Step) (reply : Reply) (after : View P) where
  visited-held : WithHand v w → Visited handlers config w before step reply left w.seen after → Visited handlers config v before step reply left v.seen after
  visited-held h r =
      let x : Visited handlers config (record v { hand = h.0 }) before step reply left v.seen after = subst (λ (y : View P). Visited handlers config y before step reply left y.seen after) h.1 r in
      let z = x.visits in
      record {
        visits = record {
          steps = z.steps;
          part = z.part;
          led = z.led;
          stood = z.stood;
          mine = z.mine;
          at = done-held (simulation_of handlers config) v h.0 z.steps z.part step reply after z.at;
          does = z.does;
          stands = z.stands;
          within = z.within;
        };
        same = record { worker = x.same.worker; made = x.same.made; waiting = x.same.waiting };
        floor = x.floor;
        rests = x.rests;
      }

  -- of these kernels, and with this reply
  pub visited-there : (lent done : HeldWorker S P K) (said : Reply) → WithHand v w → before ≡ lent → left ≡ done → reply ≡ said → Visited handlers config w before step reply left w.seen after
      → Visited handlers config v lent step said done v.seen after
  visited-there lent done said h was is answers r =
      subst (λ (k : HeldWorker S P K × HeldWorker S P K × Reply). Visited handlers config v k.0 step k.2 k.1 v.seen after) (λ i. (was i, is i, answers i)) (visited-held h r)

-- a step that was done or refused, and how its call was answered
module _ {S P K : Type 0} (handlers : Handlers S P K) (config : Config) (v w : View P) (before left lent done : HeldWorker S P K) (step : Step) (after : View P) (h : WithHand v w) (was : before ≡ lent) (is : left ≡ done) (Same : Type 0) where
  abbrev Left : Result Reply Fault → Type 0
  Left answer = MatchResult answer (λ reply. Visited handlers config w before step reply left w.seen after) (λ _. Unvisited w w.seen after)

  pub tried-there : {X : Type 0} (reply : X → Reply) (result : Result X Fault) {answer : Result Reply Fault} → answer ≡ answer_as reply result → Left answer
      → IfErr (answer_as reply result) (λ _. (done ≡ lent) × Same) → MatchResult result (λ x. Visited handlers config v lent step (reply x) done v.seen after) (λ _. Stays v after × (done ≡ lent))
  tried-there reply (Ok x) told r kept = visited-there handlers config v w before left step (reply x) after lent done (reply x) h was is refl (subst Left told r)
  tried-there reply (Err fault) told r kept = (stays-held v w after h (subst Left told r), kept.0)

-- a call is refused for the reason of its step
pub tried-refused : {X : Type 0} (reply : X → Reply) (result : Result X Fault) (why : Fault → Type 0) → IfErr (answer_as reply result) why → IfErr result why
tried-refused reply (Ok x) why r = tt
tried-refused reply (Err fault) why r = r

module _ {S P : Type 0} {sim : Simulation S P} {config : Config} {m after : Sat P} {k : ℕ} (t : Took sim config m k after) (rests : Rests m) where
  -- a claim leaves the place as it was
  pub took-place : WithHand m.0 after.0
  took-place = (holding k (held_in t.slot), ap (λ (x : Sat P). x.0) t.after_is)

  took-held : (cell : Cell P) → held_in t.slot ≡ cell → Holding config after k cell cell
  took-held cell is = record {
    slot = t.slot;
    hand = ap (λ (x : Sat P). x.0.hand) t.after_is ∙ ap (holding k) is;
    carried = ap (λ (x : Sat P). x.1) t.after_is ∙ ap (λ (l : List (ℕ × Slot P)). (k, t.slot) ∷ l) rests.1;
    now_is = is;
    right = t.right;
  }

  -- an inbox holds mail
  pub took-inbox : k < sim.workers → (mails : List (Mail P)) × Holding config after k (in_inbox mails) (in_inbox mails) × (held_in t.slot ≡ in_inbox mails)
  took-inbox near =
      let world = shown sim t.known.log in
      let at : content world (inbox_of k) ≡ Some (held_in t.slot) = ap (content world) (sym (inbox-name sim.workers k near)) ∙ t.known.shows in
      let mails = inbox-holds world k (held_in t.slot) at in
      (mails.0, took-held (in_inbox mails.0) mails.1, mails.1)

  took-there : IsLawful sim → (there : World P → Cell P) → held_in t.slot ≡ there (shown sim t.known.log) → TookThere sim config there m k after
  took-there lawful there is = record { lawful = lawful; cell = held_in t.slot; known = t.known; holds = took-held (there (shown sim t.known.log)) is; place = took-place }

  -- the board's cell holds the board of the shown world
  pub took-board : IsLawful sim → k ≡ sim.workers → TookThere sim config (λ world. on_board world.board) m k after
  took-board lawful is =
      let world = shown sim t.known.log in
      took-there lawful (λ n. on_board n.board) (board-holds world (held_in t.slot) (ap (content world) (sym (board-name sim.workers k is)) ∙ t.known.shows))

  -- and the book's cell its book
  pub took-book : IsLawful sim → sim.workers < k → TookThere sim config (λ world. in_book world.book) m k after
  took-book lawful more =
      let world = shown sim t.known.log in
      took-there lawful (λ n. in_book n.book) (book-holds world (held_in t.slot) (ap (content world) (sym (book-name sim.workers k more)) ∙ t.known.shows))

-- a place that has claimed its worker's inbox
pub record TookOwn {S P : Type 0} (sim : Simulation S P) (config : Config) (place : Place P) (after : Sat P) : Type 0 where
  pub took : Took sim config place.seat.me place.worker after
  pub mails : List (Mail P)
  pub holds : Holding config after place.worker (in_inbox mails) (in_inbox mails)
  pub found : held_in took.slot ≡ in_inbox mails

pub took-own : {S P : Type 0} {sim : Simulation S P} {config : Config} (place : Place P) {looked after : Sat P} → looked ≡ place.seat.me → Took sim config looked place.worker after → TookOwn sim config place after
took-own {sim = sim} {config = config} place {after = after} same claimed =
    let t = subst (λ (m : Sat _). Took sim config m place.worker after) same claimed in
    let box = took-inbox t place.rests (subst (λ w. w < sim.workers) place.own t.known.within) in
    record { took = t; mails = box.0; holds = box.1; found = box.2 }
