-- Trails: the first one is taken off, and one is put before the others.
use Rattle.std.proofs.Common.{◌≡◌, ◌≢◌, refl, sym, ap, ◌∙◌, subst, arith}
use Rattle.std.specs.Prelude.{suc, List, [], ◌∷◌, ◌++◌, length, take, drop, map, Option, Some, None, slice_index_or}
use Rattle.std.proofs.lemmas.Option.{none-some}
use denote.RawPtr.{Ptr}
use Rattle.vt_nodes.specs.declared.node.Node.{Node}
use Rattle.vt_nodes.specs.inside.Linked.{NodeAt, first_or, with_prev, items, LeadOn}
use Rattle.vt_nodes.specs.inside.Lines.{put_before, lines_of, first_length, trails_head, LeadsBack, AreTrails}

module _ {X : Type 0} where
  -- nodes are the first list and the others
  record Opened (b : NodeAt X) (bs : List (NodeAt X)) : Type 0 where
    line : List (NodeAt X)
    lines : List (List (NodeAt X))
    is : lines_of (b ∷ bs) ≡ (b ∷ line) ∷ lines
    taken : take (suc (length line)) (b ∷ bs) ≡ b ∷ line
    left : lines_of (drop (suc (length line)) (b ∷ bs)) ≡ lines

  opened : (b : NodeAt X) (bs : List (NodeAt X)) → Opened b bs
  opened b [] = elim b.1.next as (λ n. b.1.next ≡ n → Opened b []) [
    | None ↦ λ e. record { line = []; lines = []; is = ap (λ n. put_before n b []) e; taken = refl; left = refl }
    | Some p ↦ λ e. record { line = []; lines = []; is = ap (λ n. put_before n b []) e; taken = refl; left = refl }
  ] refl
  opened b (c ∷ cs) = let o = opened c cs in elim b.1.next as (λ n. b.1.next ≡ n → Opened b (c ∷ cs)) [
    | None ↦ λ e. record { line = []; lines = lines_of (c ∷ cs); is = ap (λ n. put_before n b (lines_of (c ∷ cs))) e; taken = refl; left = refl }
    | Some p ↦ λ e. let longer : suc (length o.line) ≡ length (c ∷ o.line) = omega arith in record {
      line = c ∷ o.line;
      lines = o.lines;
      is = ap (λ n. put_before n b (lines_of (c ∷ cs))) e ∙ ap (put_before (Some p) b) o.is;
      taken = ap (λ l. b ∷ l) (ap (λ n. take n (c ∷ cs)) (sym longer) ∙ o.taken);
      left = ap (λ n. lines_of (drop n (c ∷ cs))) (sym longer) ∙ o.left;
    }
  ] refl

  -- the trails begin where their nodes do
  pub trails-begin : (after : Option Ptr) (bs : List (NodeAt X)) → trails_head after (lines_of bs) ≡ first_or after bs
  trails-begin after [] = refl
  trails-begin after (b ∷ bs) = ap (trails_head after) (opened b bs).is

  -- what is there where the first trail is taken off
  pub record TakenOff (head : Option Ptr) (bs line others : List (NodeAt X)) (node : Node X) : Type 0 where
    pub head_is : head ≡ first_or None line
    pub on : LeadOn line None
    pub back : LeadsBack node.prev line
    pub next_is : node.prev ≡ first_or None others
    pub stand : AreTrails None (lines_of others)
    pub lines : map items (lines_of bs) ≡ items line ∷ map items (lines_of others)
    pub filled : items line ≢ []

  pub taken-off : (head : Option Ptr) (p : Ptr) (bs line others : List (NodeAt X)) (node : Node X) → head ≡ Some p → head ≡ first_or None bs → AreTrails None (lines_of bs)
      → line ≡ take (first_length (lines_of bs)) bs → others ≡ drop (first_length (lines_of bs)) bs → node ≡ (slice_index_or bs 0 (p, node)).1 → TakenOff head bs line others node
  taken-off head p [] line others node is at stand line_is others_is read = absurd (none-some p (sym at ∙ is))
  taken-off head p (b ∷ bs) line others node is at stand line_is others_is read =
      let o = opened b bs in
      let longer : length (b ∷ o.line) ≡ suc (length o.line) = omega arith in
      let many : first_length (lines_of (b ∷ bs)) ≡ suc (length o.line) = ap first_length o.is ∙ longer in
      let l : line ≡ b ∷ o.line = line_is ∙ ap (λ n. take n (b ∷ bs)) many ∙ o.taken in
      let r : lines_of others ≡ o.lines = ap lines_of (others_is ∙ ap (λ n. drop n (b ∷ bs)) many) ∙ o.left in
      let all : AreTrails None ((b ∷ o.line) ∷ o.lines) = subst (AreTrails None) o.is stand in
      record {
        head_is = at ∙ ap (first_or None) (sym l);
        on = subst (λ (cs : List (NodeAt X)). LeadOn cs None) (sym l) all.0;
        back = subst (LeadsBack node.prev) (sym l) (sym (ap (λ n. n.prev) read));
        next_is = ap (λ n. n.prev) read ∙ all.1 ∙ ap (trails_head None) (sym r) ∙ trails-begin None others;
        stand = subst (AreTrails None) (sym r) all.2;
        lines = ap (map items) o.is ∙ (λ i. items (sym l i) ∷ map items (sym r i));
        filled = subst (λ (cs : List (NodeAt X)). items cs ≢ []) (sym l) (λ e. omega (arith, ap length e));
      }

  pub put-on-lines : (b : NodeAt X) (bs trails : List (NodeAt X)) → LeadOn (b ∷ bs) None → lines_of ((b ∷ bs) ++ trails) ≡ (b ∷ bs) ∷ lines_of trails
  put-on-lines b [] trails on = ap (λ n. put_before n b (lines_of trails)) on.0
  put-on-lines b (c ∷ bs) trails on = ap (λ n. put_before n b (lines_of ((c ∷ bs) ++ trails))) on.0 ∙ ap (put_before (Some c.0) b) (put-on-lines c bs trails on.1)

  -- a list is put before the others
  pub put-on : (first head : Option Ptr) (p : Ptr) (line trails : List (NodeAt X)) → first ≡ Some p → first ≡ first_or None line → LeadOn line None → head ≡ first_or None trails → AreTrails None (lines_of trails)
      → (first ≡ first_or None (with_prev head line ++ trails)) × AreTrails None (lines_of (with_prev head line ++ trails)) × (map items (lines_of (with_prev head line ++ trails)) ≡ items line ∷ map items (lines_of trails))
  put-on first head p [] trails is at on head_is stand = absurd (none-some p (sym at ∙ is))
  put-on first head p (b ∷ bs) trails is at on head_is stand =
      let c : NodeAt X = (b.0, record b.1 { prev = head }) in
      let lines : lines_of ((c ∷ bs) ++ trails) ≡ (c ∷ bs) ∷ lines_of trails = put-on-lines c bs trails on in
      (at, subst (AreTrails None) (sym lines) (on, head_is ∙ sym (trails-begin None trails), stand), ap (map items) lines)
