-- What becomes of links where nodes are joined and parted.
use Rattle.std.proofs.Common.{◌≡◌, refl, sym, ap, ◌∙◌, subst, arith}
use Rattle.std.specs.Prelude.{◌-◌, ◌<◌, List, [], ◌∷◌, ◌++◌, length, map, take, drop, reverse, Option, Some, None, slice_index_or}
use Rattle.std.proofs.lemmas.List.{append-nil, take_at, drop_at, length-append, append_assoc, map-append, reverse-append}
use Rattle.std.proofs.lemmas.Option.{none-some}
use Rattle.std.specs.Option.{unwrap_or}
use denote.RawPtr.{Ptr, null_ptr}
use Rattle.vt_nodes.specs.inside.Blocks.{addresses, address_at}
use Rattle.vt_nodes.specs.declared.node.Node.{Node}
use Rattle.vt_nodes.specs.inside.Linked.{NodeAt, first_or, last_or, with_next, with_prev, items, LeadOn, LeadBack, advanced, IsChain, IsBeginning, IsPosition}

-- ---- ends

-- nodes have a last one
last-some : {Y : Type 0} (b : Ptr × Y) (bs : List (Ptr × Y)) → last_or None (b ∷ bs) ≡ None → ⊥
last-some b [] e = none-some b.0 (sym e)
last-some b (c ∷ bs) e = last-some c bs e

-- where there is no last node, there is none
pub no-last : {Y : Type 0} (bs : List (Ptr × Y)) → last_or None bs ≡ None → bs ≡ []
no-last [] e = refl
no-last (b ∷ bs) e = absurd (last-some b bs e)

-- the ends of nodes that were joined
pub first-append : {Y : Type 0} (z : Option Ptr) (bs cs : List (Ptr × Y)) → first_or z (bs ++ cs) ≡ first_or (first_or z cs) bs
first-append z [] cs = refl
first-append z (b ∷ bs) cs = refl

pub last-append : {Y : Type 0} (a : Option Ptr) (bs cs : List (Ptr × Y)) → last_or a (bs ++ cs) ≡ last_or (last_or a bs) cs
last-append a [] cs = refl
last-append a (b ∷ bs) cs = last-append (Some b.0) bs cs

-- nodes with a known last address are some nodes and one more
pub record Last {Y : Type 0} (p : Ptr) (bs : List (Ptr × Y)) : Type 0 where
  pub front : List (Ptr × Y)
  pub content : Y
  pub is : bs ≡ front ++ (p, content) ∷ []

last-of-more : {Y : Type 0} (p : Ptr) (b : Ptr × Y) (bs : List (Ptr × Y)) → last_or None (b ∷ bs) ≡ Some p → Last p (b ∷ bs)
last-of-more p b [] e = record { front = []; content = b.1; is = ap (λ q. (unwrap_or q b.0, b.1) ∷ []) e }
last-of-more p b (c ∷ bs) e =
    let on = last-of-more p c bs e in record { front = b ∷ on.front; content = on.content; is = ap (λ l. b ∷ l) on.is }

pub last-of : {Y : Type 0} (p : Ptr) (bs : List (Ptr × Y)) → last_or None bs ≡ Some p → Last p bs
last-of p [] e = absurd (none-some p e)
last-of p (b ∷ bs) e = last-of-more p b bs e

module _ {Y : Type 0} (p : Ptr) (bs : List (Ptr × Y)) (l : Last p bs) where
  one-less : length l.front ≡ length bs - 1
  one-less = omega (arith, ap length l.is, length-append l.front ((p, l.content) ∷ []))

  pub take-last : take (length bs - 1) bs ≡ l.front
  take-last = ap (take (length bs - 1)) l.is ∙ take_at l.front ((p, l.content) ∷ []) (length bs - 1) one-less

  pub drop-last : drop (length bs - 1) bs ≡ (p, l.content) ∷ []
  drop-last = ap (drop (length bs - 1)) l.is ∙ drop_at l.front ((p, l.content) ∷ []) (length bs - 1) one-less

  pub some-last : 0 < length bs
  some-last = omega (arith, ap length l.is, length-append l.front ((p, l.content) ∷ []))

-- where the last one lies
address-snoc : {Y : Type 0} (p : Ptr) (y : Y) (bs : List (Ptr × Y)) → address_at (bs ++ (p, y) ∷ []) (length bs) ≡ p
address-snoc p y [] = refl
address-snoc p y (b ∷ bs) = address-snoc p y bs

pub address-last : {Y : Type 0} (p : Ptr) (bs : List (Ptr × Y)) → last_or None bs ≡ Some p → (length bs - 1 < length bs) × (address_at bs (length bs - 1) ≡ p)
address-last p bs e =
    let l = last-of p bs e in
    let some : 0 < length bs = some-last p bs l in
    (omega arith, ap (address_at bs) (sym (one-less p bs l)) ∙ ap (λ cs. address_at cs (length l.front)) l.is ∙ address-snoc p l.content l.front)

-- one node is where its address says
pub only-address : {Y : Type 0} (p : Ptr) (bs : List (Ptr × Y)) → addresses bs ≡ p ∷ [] → (0 < length bs) × (address_at bs 0 ≡ p)
only-address p [] is = absurd (omega (arith, ap length is))
only-address p (b ∷ bs) is = (omega arith, ap (λ ps. slice_index_or ps 0 null_ptr) is)

-- ---- writing a link

module _ {X : Type 0} where
  -- where one node is written, and one of its links is what it was, the other one alone is changed
  pub next-alone : (p : Ptr) (next : Option Ptr) (bs : List (NodeAt X)) (node : Node X) → addresses bs ≡ p ∷ [] → node ≡ (slice_index_or bs 0 (p, node)).1
      → map {B = NodeAt X} (λ (b : NodeAt X). (b.0, record b.1 { next = next; prev = node.prev })) bs ≡ map {B = NodeAt X} (λ (b : NodeAt X). (b.0, record b.1 { next = next })) bs
  next-alone p next [] node is read = refl
  next-alone p next (b ∷ []) node is read = ap (λ (n : Node X). (b.0, record b.1 { next = next; prev = n.prev }) ∷ []) read
  next-alone p next (b ∷ c ∷ bs) node is read = absurd (omega (arith, ap length is))

  pub prev-alone : (p : Ptr) (prev : Option Ptr) (bs : List (NodeAt X)) (node : Node X) → addresses bs ≡ p ∷ [] → node ≡ (slice_index_or bs 0 (p, node)).1
      → map {B = NodeAt X} (λ (b : NodeAt X). (b.0, record b.1 { next = node.next; prev = prev })) bs ≡ map {B = NodeAt X} (λ (b : NodeAt X). (b.0, record b.1 { prev = prev })) bs
  prev-alone p prev [] node is read = refl
  prev-alone p prev (b ∷ []) node is read = ap (λ (n : Node X). (b.0, record b.1 { next = n.next; prev = prev }) ∷ []) read
  prev-alone p prev (b ∷ c ∷ bs) node is read = absurd (omega (arith, ap length is))

  -- writing the last link changes the last node alone
  pub with_next-snoc : (z : Option Ptr) (bs : List (NodeAt X)) (b : NodeAt X) → with_next z (bs ++ b ∷ []) ≡ bs ++ (b.0, record b.1 { next = z }) ∷ []
  with_next-snoc z [] b = refl
  with_next-snoc z (c ∷ []) b = refl
  with_next-snoc z (c ∷ d ∷ bs) b = ap (λ l. c ∷ l) (with_next-snoc z (d ∷ bs) b)

  -- writing a link moves no node
  pub first-with_next : (y z : Option Ptr) (bs : List (NodeAt X)) → first_or y (with_next z bs) ≡ first_or y bs
  first-with_next y z [] = refl
  first-with_next y z (b ∷ []) = refl
  first-with_next y z (b ∷ c ∷ bs) = refl

  last-with_next : (a z : Option Ptr) (bs : List (NodeAt X)) → last_or a (with_next z bs) ≡ last_or a bs
  last-with_next a z [] = refl
  last-with_next a z (b ∷ []) = refl
  last-with_next a z (b ∷ c ∷ bs) = last-with_next (Some b.0) z (c ∷ bs)

  -- writing a link changes no item
  pub items-with_next : (z : Option Ptr) (bs : List (NodeAt X)) → items (with_next z bs) ≡ items bs
  items-with_next z [] = refl
  items-with_next z (b ∷ []) = refl
  items-with_next z (b ∷ c ∷ bs) = ap (λ l. b.1.item ∷ l) (items-with_next z (c ∷ bs))

  pub items-with_prev : (a : Option Ptr) (bs : List (NodeAt X)) → items (with_prev a bs) ≡ items bs
  items-with_prev a [] = refl
  items-with_prev a (b ∷ bs) = refl

  pub items-append : (bs cs : List (NodeAt X)) → items (bs ++ cs) ≡ items bs ++ items cs
  items-append bs cs = map-append (λ b. b.1.item) bs cs

  -- where there is no last node, no items are seen
  pub no-items : (last : Option Ptr) (bs : List (NodeAt X)) (seen : List X) → items bs ≡ seen → last ≡ last_or None bs → last ≡ None → seen ≡ []
  no-items last bs seen view is none = sym view ∙ ap items (no-last bs (sym is ∙ none))

  -- the items of nodes of which the last one now leads on, and of those behind them
  pub items-joined : (z : Option Ptr) (bs cs all : List (NodeAt X)) (front behind : List X) → all ≡ with_next z bs ++ cs → items bs ≡ front → items cs ≡ behind → items all ≡ front ++ behind
  items-joined z bs cs all front behind is first rest =
      ap items is ∙ items-append (with_next z bs) cs ∙ (λ i. (items-with_next z bs ∙ first) i ++ rest i)

  -- after a link is written, all nodes lead on and back as before, but for that link
  pub on-with_next : (y z : Option Ptr) (bs : List (NodeAt X)) → LeadOn bs y → LeadOn (with_next z bs) z
  on-with_next y z [] on = tt
  on-with_next y z (b ∷ []) on = (refl, tt)
  on-with_next y z (b ∷ c ∷ bs) on = (on.0 ∙ sym (first-with_next z z (c ∷ bs)), on-with_next y z (c ∷ bs) on.1)

  pub on-with_prev : (a z : Option Ptr) (bs : List (NodeAt X)) → LeadOn bs z → LeadOn (with_prev a bs) z
  on-with_prev a z [] on = tt
  on-with_prev a z (b ∷ bs) on = on

  back-with_next : (a z : Option Ptr) (bs : List (NodeAt X)) → LeadBack a bs → LeadBack a (with_next z bs)
  back-with_next a z [] back = tt
  back-with_next a z (b ∷ []) back = back
  back-with_next a z (b ∷ c ∷ bs) back = (back.0, back-with_next (Some b.0) z (c ∷ bs) back.1)

  back-with_prev : (y a : Option Ptr) (bs : List (NodeAt X)) → LeadBack y bs → LeadBack a (with_prev a bs)
  back-with_prev y a [] back = tt
  back-with_prev y a (b ∷ bs) back = (refl, back.1)

  -- ---- joining and parting

  -- links of nodes that are joined, and of both parts of nodes that are parted
  pub on-append : (z : Option Ptr) (bs cs : List (NodeAt X)) → LeadOn bs (first_or z cs) → LeadOn cs z → LeadOn (bs ++ cs) z
  on-append z [] cs on more = more
  on-append z (b ∷ bs) cs on more = (on.0 ∙ sym (first-append z bs cs), on-append z bs cs on.1 more)

  on-front : (z : Option Ptr) (bs cs : List (NodeAt X)) → LeadOn (bs ++ cs) z → LeadOn bs (first_or z cs)
  on-front z [] cs on = tt
  on-front z (b ∷ bs) cs on = (on.0 ∙ first-append z bs cs, on-front z bs cs on.1)

  pub on-back : (z : Option Ptr) (bs cs : List (NodeAt X)) → LeadOn (bs ++ cs) z → LeadOn cs z
  on-back z [] cs on = on
  on-back z (b ∷ bs) cs on = on-back z bs cs on.1

  back-append : (a : Option Ptr) (bs cs : List (NodeAt X)) → LeadBack a bs → LeadBack (last_or a bs) cs → LeadBack a (bs ++ cs)
  back-append a [] cs back more = more
  back-append a (b ∷ bs) cs back more = (back.0, back-append (Some b.0) bs cs back.1 more)

  back-front : (a : Option Ptr) (bs cs : List (NodeAt X)) → LeadBack a (bs ++ cs) → LeadBack a bs
  back-front a [] cs back = tt
  back-front a (b ∷ bs) cs back = (back.0, back-front (Some b.0) bs cs back.1)

  back-back : (a : Option Ptr) (bs cs : List (NodeAt X)) → LeadBack a (bs ++ cs) → LeadBack (last_or a bs) cs
  back-back a [] cs back = back
  back-back a (b ∷ bs) cs back = back-back (Some b.0) bs cs back.1

  -- ---- chains

  join-more : (h t n l : Option Ptr) (b c : NodeAt X) (bs cs : List (NodeAt X)) → IsChain h t (b ∷ bs) → IsChain n l (c ∷ cs) → IsChain h l (with_next n (b ∷ bs) ++ with_prev t (c ∷ cs))
  join-more h t n l b c bs cs one other =
      let front : List (NodeAt X) = with_next n (b ∷ bs) in
      let back : List (NodeAt X) = with_prev t (c ∷ cs) in
      record {
        head_is = one.head_is ∙ sym (first-append None front back ∙ first-with_next (Some c.0) n (b ∷ bs));
        tail_is = other.tail_is ∙ sym (last-append None front back);
        on = on-append None front back (subst (LeadOn front) other.head_is (on-with_next None n (b ∷ bs) one.on)) (on-with_prev t None (c ∷ cs) other.on);
        back =
            back-append None front back (back-with_next None n (b ∷ bs) one.back)
            (subst (λ y. LeadBack y back) (one.tail_is ∙ sym (last-with_next None n (b ∷ bs))) (back-with_prev None t (c ∷ cs) other.back));
      }

  -- two chains with nodes are joined where each link between them is written
  pub join-chain : (h t n l : Option Ptr) (p q : Ptr) (bs cs : List (NodeAt X)) → IsChain h t bs → IsChain n l cs → t ≡ Some p → n ≡ Some q → IsChain h l (with_next n bs ++ with_prev t cs)
  join-chain h t n l p q [] cs one other t_is n_is = absurd (none-some p (sym one.tail_is ∙ t_is))
  join-chain h t n l p q (b ∷ bs) [] one other t_is n_is = absurd (none-some q (sym other.head_is ∙ n_is))
  join-chain h t n l p q (b ∷ bs) (c ∷ cs) one other t_is n_is = join-more h t n l b c bs cs one other

  -- nodes lead on to others where the link of the last one is written
  pub leads-joined : (head last next z : Option Ptr) (p : Ptr) (bs cs all : List (NodeAt X)) → all ≡ with_next z bs ++ cs → last ≡ Some p → head ≡ first_or next bs → last ≡ last_or None bs → LeadOn bs next
      → z ≡ first_or None cs → LeadOn cs None → (head ≡ first_or None all) × LeadOn all None
  leads-joined head last next z p [] cs all is ends head_is last_is on at behind = absurd (none-some p (sym last_is ∙ ends))
  leads-joined head last next z p (b ∷ bs) cs all is ends head_is last_is on at behind =
      let front : List (NodeAt X) = with_next z (b ∷ bs) in
      subst (λ (xs : List (NodeAt X)). (head ≡ first_or None xs) × LeadOn xs None) (sym is) (
        head_is ∙ sym (first-append None front cs ∙ first-with_next (first_or None cs) z (b ∷ bs)),
        on-append None front cs (subst (LeadOn front) at (on-with_next next z (b ∷ bs) on)) behind,
      )

  -- a chain is parted at a position: what was passed is one, and what is ahead is one
  pub front-chain : (h t last next : Option Ptr) (p : Ptr) (passed ahead : List (NodeAt X)) → last ≡ Some p → IsPosition last next passed ahead → IsChain h t (passed ++ ahead) → IsChain h last (with_next None passed)
  front-chain h t last next p [] ahead is position chain = absurd (none-some p (sym position.last_is ∙ is))
  front-chain h t last next p (b ∷ bs) ahead is position chain = record {
    head_is = chain.head_is ∙ sym (first-with_next None None (b ∷ bs));
    tail_is = position.last_is ∙ sym (last-with_next None None (b ∷ bs));
    on = on-with_next (first_or None ahead) None (b ∷ bs) (on-front None (b ∷ bs) ahead chain.on);
    back = back-with_next None None (b ∷ bs) (back-front None (b ∷ bs) ahead chain.back);
  }

  pub back-chain : (h t last next : Option Ptr) (p : Ptr) (passed ahead : List (NodeAt X)) → next ≡ Some p → IsPosition last next passed ahead → IsChain h t (passed ++ ahead) → IsChain next t (with_prev None ahead)
  back-chain h t last next p passed [] is position chain = absurd (none-some p (sym position.next_is ∙ is))
  back-chain h t last next p passed (b ∷ bs) is position chain = record {
    head_is = position.next_is;
    tail_is = chain.tail_is ∙ last-append None passed (b ∷ bs);
    on = on-with_prev None None (b ∷ bs) (on-back None passed (b ∷ bs) chain.on);
    back = back-with_prev (last_or None passed) None (b ∷ bs) (back-back None passed (b ∷ bs) chain.back);
  }

  -- ---- positions

  -- where no node was passed, all are ahead
  pub all-ahead : (last next : Option Ptr) (passed ahead : List (NodeAt X)) → last ≡ None → IsPosition last next passed ahead → (passed ≡ []) × (passed ++ ahead ≡ ahead)
  all-ahead last next [] ahead is position = (refl, refl)
  all-ahead last next (b ∷ bs) ahead is position = absurd (last-some b bs (sym position.last_is ∙ is))

  -- where no node is ahead, all were passed
  pub all-passed : (last next : Option Ptr) (passed ahead : List (NodeAt X)) → next ≡ None → IsPosition last next passed ahead → (ahead ≡ []) × (passed ++ ahead ≡ passed)
  all-passed last next passed [] is position = (refl, append-nil passed)
  all-passed last next passed (b ∷ ahead) is position = absurd (none-some b.0 (sym is ∙ position.next_is))

  -- one node further
  pub next-position : (last next : Option Ptr) (p : Ptr) (passed ahead : List (NodeAt X)) (node : Node X) → next ≡ Some p → IsPosition last next passed ahead
      → node ≡ (slice_index_or (take 1 ahead) 0 (p, node)).1 → IsPosition next node.next (passed ++ take 1 ahead) (drop 1 ahead)
  next-position last next p passed [] node is position read = absurd (none-some p (sym position.next_is ∙ is))
  next-position last next p passed (b ∷ ahead) node is position read = record {
    on = subst (λ (bs : List (NodeAt X)). LeadOn bs None) (sym (append_assoc passed (b ∷ []) ahead)) position.on;
    last_is = position.next_is ∙ sym (last-append None passed (b ∷ []));
    next_is = ap (λ n. n.next) read ∙ (on-back None passed (b ∷ ahead) position.on).0;
  }

  pub one-more : (passed ahead : List (NodeAt X)) → (items (passed ++ take 1 ahead), items (drop 1 ahead)) ≡ advanced (items passed, items ahead)
  one-more passed [] = ap (λ (bs : List (NodeAt X)). (items bs, [])) (append-nil passed)
  one-more passed (b ∷ ahead) = ap (λ (xs : List X). (xs, items ahead)) (items-append passed (b ∷ []))

  -- before the last node
  pub last-position : (h t : Option Ptr) (p : Ptr) (bs front end : List (NodeAt X)) (node : Node X) → t ≡ Some p → IsChain h t bs → front ≡ take (length bs - 1) bs → end ≡ drop (length bs - 1) bs
      → node ≡ (slice_index_or end 0 (p, node)).1 → IsPosition node.prev t front end
  last-position h t p bs front end node is chain front_is end_is read =
      let l = last-of p bs (sym chain.tail_is ∙ is) in
      let f : front ≡ l.front = front_is ∙ take-last p bs l in
      let e : end ≡ (p, l.content) ∷ [] = end_is ∙ drop-last p bs l in
      let same : node ≡ l.content = read ∙ ap (λ (cs : List (NodeAt X)). (slice_index_or cs 0 (p, node)).1) e in
      let whole : IsChain h t (l.front ++ (p, l.content) ∷ []) = subst (IsChain h t) l.is chain in
      record {
        on = subst (λ (cs : List (NodeAt X)). LeadOn cs None) (λ i. sym f i ++ sym e i) whole.on;
        last_is = ap (λ n. n.prev) same ∙ (back-back None l.front ((p, l.content) ∷ []) whole.back).0 ∙ ap (last_or None) (sym f);
        next_is = is ∙ ap (first_or None) (sym e);
      }

  -- what was passed of a trail is its beginning
  pub passed-beginning : (head last next : Option Ptr) (passed ahead : List (NodeAt X)) → head ≡ first_or None (passed ++ ahead) → IsPosition last next passed ahead → IsBeginning head last next passed
  passed-beginning head last next passed ahead head_is position = record {
    head_is = head_is ∙ first-append None passed ahead ∙ ap (λ n. first_or n passed) (sym position.next_is);
    last_is = position.last_is;
    on = subst (LeadOn passed) (sym position.next_is) (on-front None passed ahead position.on);
  }

  -- ---- all but the last

  read-snoc : (b d : NodeAt X) (bs : List (NodeAt X)) → slice_index_or (bs ++ b ∷ []) (length bs) d ≡ b
  read-snoc b d [] = refl
  read-snoc b d (c ∷ bs) = read-snoc b d bs

  -- without the last node, which was read: it leads back to the last that is left, all lead back as before, and its item is
  -- the first from the back
  pub without-last : (p : Ptr) (bs front : List (NodeAt X)) (node : Node X) → last_or None bs ≡ Some p → LeadBack None bs → front ≡ take (length bs - 1) bs
      → node ≡ (slice_index_or bs (length bs - 1) (p, node)).1 → (node.prev ≡ last_or None front) × LeadBack None front × (reverse (items bs) ≡ node.item ∷ reverse (items front))
  without-last p bs front node at back front_is read =
      let l = last-of p bs at in
      let f : front ≡ l.front = front_is ∙ take-last p bs l in
      let same : node ≡ l.content =
      read ∙ ap (λ k. (slice_index_or bs k (p, node)).1) (sym (one-less p bs l)) ∙ ap (λ (cs : List (NodeAt X)). (slice_index_or cs (length l.front) (p, node)).1) l.is
      ∙ ap (λ (b : NodeAt X). b.1) (read-snoc (p, l.content) (p, node) l.front) in
      let whole : LeadBack None (l.front ++ (p, l.content) ∷ []) = subst (LeadBack None) l.is back in (
        ap (λ n. n.prev) same ∙ (back-back None l.front ((p, l.content) ∷ []) whole).0 ∙ ap (last_or None) (sym f),
        subst (LeadBack None) (sym f) (back-front None l.front ((p, l.content) ∷ []) whole),
        ap (λ (cs : List (NodeAt X)). reverse (items cs)) l.is ∙ ap reverse (items-append l.front ((p, l.content) ∷ [])) ∙ reverse-append (items l.front) (l.content.item ∷ [])
            ∙ (λ i. (sym same i).item ∷ reverse (items (sym f i))),
      )
