-- The first of some trails, of which the last one stands apart: one trail more, and joined to the others.
use Rattle.std.proofs.Common.{◌≡◌, ◌≢◌, refl, sym, ap, ◌∙◌, subst}
use Rattle.std.specs.Prelude.{List, [], ◌∷◌, ◌++◌, map, Option, Some, None}
use Rattle.std.proofs.lemmas.List.{append-nil, append_assoc, map-append}
use Rattle.std.proofs.lemmas.Option.{none-some}
use denote.RawPtr.{Ptr}
use Rattle.vt_nodes.specs.declared.node.Node.{Node}
use Rattle.vt_nodes.specs.inside.Linked.{NodeAt, first_or, with_prev, items, LeadOn}
use Rattle.vt_nodes.specs.inside.Lines.{put_before, lines_of, trails_head, LeadsBack, AreTrails, ArePassed}
use Rattle.vt_nodes.proofs.Links.{first-append}
use Rattle.vt_nodes.proofs.TrailLemmas.{TakenOff, trails-begin, put-on-lines, put-on}

module _ {X : Type 0} where
  -- each list leads on to its end
  abbrev EachEnds : List (List (NodeAt X)) → Type 0
  EachEnds [] = Unit {0}
  EachEnds (l ∷ ls) = LeadOn l None × EachEnds ls

  each-ends : (after : Option Ptr) (ls : List (List (NodeAt X))) → AreTrails after ls → EachEnds ls
  each-ends after [] stand = tt
  each-ends after (l ∷ ls) stand = (stand.0, each-ends after ls stand.2)

  before-append : (n : Option Ptr) (b : NodeAt X) (ls ms : List (List (NodeAt X))) → b.1.next ≡ n → EachEnds (put_before n b ls) → (put_before n b (ls ++ ms) ≡ put_before n b ls ++ ms) × EachEnds ls
  before-append None b ls ms is ends = (refl, ends.1)
  before-append (Some p) b [] ms is ends = absurd (none-some p (sym ends.0.0 ∙ is))
  before-append (Some p) b (l ∷ ls) ms is ends = (refl, (ends.0.1, ends.1))

  lines-append : (bs cs : List (NodeAt X)) → EachEnds (lines_of bs) → lines_of (bs ++ cs) ≡ lines_of bs ++ lines_of cs
  lines-append [] cs ends = refl
  lines-append (b ∷ bs) cs ends =
      let on = before-append b.1.next b (lines_of bs) (lines_of cs) refl ends in
      ap (put_before b.1.next b) (lines-append bs cs on.1) ∙ on.0

  head-append : (after : Option Ptr) (ls ms : List (List (NodeAt X))) → trails_head after (ls ++ ms) ≡ trails_head (trails_head after ms) ls
  head-append after [] ms = refl
  head-append after (l ∷ ls) ms = refl

  stand-lines : (after : Option Ptr) (ls ms : List (List (NodeAt X))) → AreTrails (trails_head after ms) ls → AreTrails after ms → AreTrails after (ls ++ ms)
  stand-lines after [] ms front back = back
  stand-lines after (l ∷ ls) ms front back = (front.0, subst (λ (h : Option Ptr). LeadsBack h l) (sym (head-append after ls ms)) front.1, stand-lines after ls ms front.2 back)

  -- two lists of trails, of which the first leads back to the second
  stand-append : (after : Option Ptr) (bs cs : List (NodeAt X)) → AreTrails (first_or after cs) (lines_of bs) → AreTrails after (lines_of cs)
      → (lines_of (bs ++ cs) ≡ lines_of bs ++ lines_of cs) × AreTrails after (lines_of (bs ++ cs))
  stand-append after bs cs front back =
      let is = lines-append bs cs (each-ends (first_or after cs) (lines_of bs) front) in (
        is,
        subst (AreTrails after) (sym is) (stand-lines after (lines_of bs) (lines_of cs) (subst (λ (h : Option Ptr). AreTrails h (lines_of bs)) (sym (trails-begin after cs)) front) back),
      )

  -- nodes of one list
  one-line : (b : NodeAt X) (bs : List (NodeAt X)) → LeadOn (b ∷ bs) None → lines_of (b ∷ bs) ≡ (b ∷ bs) ∷ []
  one-line b bs on = ap lines_of (sym (append-nil (b ∷ bs))) ∙ put-on-lines b bs [] on

  -- the lists that were passed are trails
  passed-stand : (head last next : Option Ptr) (before line : List (NodeAt X)) → ArePassed head last next before line
      → (lines_of (before ++ line) ≡ lines_of before ++ lines_of line) × AreTrails next (lines_of (before ++ line))
  passed-stand head last next before [] passed =
      subst (λ (bs : List (NodeAt X)). (lines_of (bs ++ []) ≡ lines_of bs ++ []) × AreTrails next (lines_of (bs ++ []))) (sym (passed.none refl)) (refl, tt)
  passed-stand head last next before (b ∷ bs) passed =
      stand-append next before (b ∷ bs) (subst (λ (h : Option Ptr). AreTrails h (lines_of before)) passed.last_is passed.stand) (subst (AreTrails next) (sym (one-line b bs passed.on)) (passed.on, passed.back, tt))

  -- the last of them is the one that stands apart
  passed-last : (head last next : Option Ptr) (before line : List (NodeAt X)) → ArePassed head last next before line → line ≢ []
      → map items (lines_of (before ++ line)) ≡ map items (lines_of before) ++ items line ∷ []
  passed-last head last next before [] passed some = absurd (some refl)
  passed-last head last next before (b ∷ bs) passed some =
      ap (map items) ((passed-stand head last next before (b ∷ bs) passed).0 ∙ ap (λ ls. lines_of before ++ ls) (one-line b bs passed.on)) ∙ map-append items (lines_of before) ((b ∷ bs) ∷ [])

  first-some : (n : Option Ptr) (bs : List (NodeAt X)) → bs ≢ [] → first_or n bs ≡ first_or None bs
  first-some n [] some = absurd (some refl)
  first-some n (b ∷ bs) some = refl

  -- one list further
  pub next-passed : (head last next : Option Ptr) (before line ahead first rest : List (NodeAt X)) (node : Node X) → ArePassed head last next before line → TakenOff next ahead first rest node
      → ArePassed head next node.prev (before ++ line) first × (map items (lines_of ((before ++ line) ++ first)) ≡ map items (lines_of (before ++ line)) ++ items first ∷ [])
  next-passed head last next before line ahead first rest node passed off =
      let some : first ≢ [] = λ e. off.filled (ap items e) in
      let on : ArePassed head next node.prev (before ++ line) first = record {
        head_is = passed.head_is ∙ ap (λ n. first_or (first_or n line) before) (off.head_is ∙ sym (first-some node.prev first some)) ∙ sym (first-append (first_or node.prev first) before line);
        last_is = off.head_is;
        stand = (passed-stand head last next before line passed).1;
        on = off.on;
        back = off.back;
        none = λ e. absurd (some e);
      } in (on, passed-last head next node.prev (before ++ line) first on some)

  -- those that were passed, of which the last one now leads back to the first of other lists, and these
  pub join-passed : (head last next h : Option Ptr) (p : Ptr) (before line more : List (NodeAt X)) → last ≡ Some p → ArePassed head last next before line → h ≡ first_or None more → AreTrails None (lines_of more)
      → (head ≡ first_or None (before ++ (with_prev h line ++ more))) × AreTrails None (lines_of (before ++ (with_prev h line ++ more)))
      × (map items (lines_of (before ++ (with_prev h line ++ more))) ≡ map items (lines_of (before ++ line)) ++ map items (lines_of more))
  join-passed head last next h p before line more is passed at stand =
      let some : line ≢ [] = λ e. none-some p (sym (ap (first_or None) e) ∙ sym passed.last_is ∙ is) in
      let back : List (NodeAt X) = with_prev h line ++ more in
      let on = put-on last h p line more is passed.last_is passed.on at stand in
      let all = stand-append None before back (subst (λ (n : Option Ptr). AreTrails n (lines_of before)) on.0 passed.stand) on.1 in (
        passed.head_is ∙ ap (λ n. first_or n before) (first-some next line some ∙ sym passed.last_is ∙ on.0) ∙ sym (first-append None before back),
        all.1,
        ap (map items) all.0 ∙ map-append items (lines_of before) (lines_of back)
            ∙ ap (λ ls. map items (lines_of before) ++ ls) on.2
            ∙ sym (append_assoc (map items (lines_of before)) (items line ∷ []) (map items (lines_of more)))
            ∙ ap (λ ls. ls ++ map items (lines_of more)) (sym (passed-last head last next before line passed some)),
      )
