-- A message that comes to its process: what has to be asked on the way.
use Rattle.std.proofs.Common.{◌≡◌, ◌∙◌, ◌⊎◌, ℕ, ◌+◌, ◌*◌, ◌/◌, ◌%◌, ◌<◌, ◌≤◌, false, List, length, refl, sym, ap, subst, arith, inl, inr}
use Rattle.std.specs.List.{AllByRecursion}
use Rattle.std.proofs.Math.Nat.{div-add-mod'}
use Rattle.vt_key.specs.promise.Order.{rank_before}
use Rattle.vt_key.specs.promise.Queues.{insert_letter, letter_rank}
use Rattle.vt_key.specs.promise.Lists.{Among}
use Rattle.vt_key.specs.declared.order.Rank.{Rank}
use Rattle.vt_key.specs.declared.letter.Letter.{Letter}
use Rattle.vt_key.specs.declared.letter.Sign.{Sign}
use Rattle.vt_key.specs.declared.letter.Sign.TheVariants.{Plus, Minus}
use Rattle.vt_key.proofs.ListLemmas.{among-insert_ordered}
use Rattle.vt_model.specs.declared.settings.Config.{Config}
use Rattle.vt_model.specs.promise.Handler.{Handlers}
use Rattle.vt_steps.proofs.lists.Indices.{get-within}
use Rattle.vt_kernel.proofs.ProcessLemmas.{index-known}
use Rattle.vt_pool.specs.inside.View.{Placed, Stock, number_at}
use Rattle.vt_pool.specs.inside.Inside.{AreSettled, IsStockInside, placed_rank}
use Rattle.vt_pool.specs.inside.Steps.{received_in}
use Rattle.vt_pool.specs.inside.Pool.{HasCancelled, MayCome, holds_stamp, with_letter, with_pending, with_waiting}
use Rattle.vt_pool.proofs.HoldLemmas.{new-pending, new-past, new-waiting}
use Rattle.vt_pool.specs.inside.Share.{HeldPool, with_pool, PoolLeadsTo}
use Rattle.vt_pool.proofs.SettleLemmas.{cancelled-settled}
use Rattle.vt_pool.proofs.ShareLemmas.{cancel-leads}
use Rattle.vt_pool.proofs.ForceLemmas.{pool-nothing}

-- the number of the process that a letter is for, by its index
pub number-of : (config : Config) (w dest index : ℕ) → index ≡ dest / config.workers → dest % config.workers ≡ w → dest ≡ number_at config w index
number-of config w dest index at own = sym (div-add-mod' dest config.workers) ∙ (λ j. sym at j * config.workers + own j)

-- that process is there
pub index-there : {S P K : Type 0} {config : Config} {w : ℕ} {stock : Stock S P K} (dest index : ℕ) → w < config.workers → IsStockInside config w stock → index ≡ dest / config.workers → dest % config.workers ≡ w → dest < config.lps
    → index < length stock.triples
index-there {config = config} {w = w} dest index known h at own within =
    let some : 1 ≤ config.workers = omega (arith, known) in
    let less = index-known config.lps config.workers w dest some within own in
    let all = h.all_there in
    omega (arith, less, all, at)

module _ {P : Type 0} where
  pub among-inserted : (letter : Letter P) (letters : List (Letter P)) → Among letter (insert_letter letter letters)
  among-inserted letter letters = among-insert_ordered (λ (a b : Letter P). rank_before (letter_rank a) (letter_rank b)) letter letters letter (inl refl)

-- what Cancel may have done leads on, and all stay settled
module _ {S P K : Type 0} (handlers : Handlers S P K) (old new : HeldPool S P K) (known : old.worker < old.config.workers) (inside : IsStockInside old.config old.worker old.stock)
    (rank : Rank) (dest index : ℕ) (there : index < length old.stock.triples) (number : dest ≡ number_at old.config old.worker index) (done : (new ≡ old) ⊎ HasCancelled rank dest old new) where
  pub cancel-may-lead : PoolLeadsTo handlers old new
  cancel-may-lead = elim done [
    | inl same ↦ subst (PoolLeadsTo handlers old) (sym same) (pool-nothing handlers old)
    | inr x ↦
        let t = get-within old.stock.triples index there in
        subst (PoolLeadsTo handlers old) (sym x.left)
        (λ rest. cancel-leads handlers (with_pool rest old) known inside index t.0 rank x.message x.anti_message t.1 x.pending x.waiting (x.message_dest ∙ number) (x.anti_message_dest ∙ number))
  ]

  pub cancel-stays-settled : AreSettled old.stock → AreSettled new.stock
  cancel-stays-settled settled = elim done [
    | inl same ↦ subst (λ (v : HeldPool S P K). AreSettled v.stock) (sym same) settled
    | inr x ↦ subst (λ (v : HeldPool S P K). AreSettled v.stock) (sym x.left) (cancelled-settled old.stock rank settled)
  ]

  pub cancel-same : (new.worker ≡ old.worker) × (new.config ≡ old.config) × (new.heard ≡ old.heard)
  cancel-same = elim done [
    | inl same ↦ (ap (λ (v : HeldPool S P K). v.worker) same, ap (λ (v : HeldPool S P K). v.config) same, ap (λ (v : HeldPool S P K). v.heard) same)
    | inr x ↦ (ap (λ (v : HeldPool S P K). v.worker) x.left, ap (λ (v : HeldPool S P K). v.config) x.left, ap (λ (v : HeldPool S P K). v.heard) x.left)
  ]

-- a letter that may come, by its sign
module _ {S P K : Type 0} (pool : HeldPool S P K) (letter : Letter P) (may : MayCome pool letter) where
  module _ (is : letter.sign ≡ Plus) where
    plus-new : holds_stamp Plus (letter_rank letter).stamp pool.stock ≡ false
    plus-new = subst (λ (s : Sign). holds_stamp s (letter_rank letter).stamp pool.stock ≡ false) is may.new

    pub message-new : AllByRecursion (λ (l : Letter P). (letter_rank letter).stamp ≡ (letter_rank l).stamp → ⊥) pool.stock.pending
    message-new = new-pending pool.stock (letter_rank letter).stamp plus-new

    pub message-not_past : AllByRecursion (λ (e : Placed P K). (letter_rank letter).stamp ≡ (placed_rank e).stamp → ⊥) pool.stock.past
    message-not_past = new-past pool.stock (letter_rank letter).stamp plus-new

    pub message-came : with_pending (insert_letter letter pool.stock.pending) pool ≡ with_letter letter pool
    message-came = λ j. record pool { stock = received_in (sym is j) letter pool.stock }

  module _ (is : letter.sign ≡ Minus) where
    pub anti_message-new : AllByRecursion (λ (l : Letter P). (letter_rank letter).stamp ≡ (letter_rank l).stamp → ⊥) pool.stock.waiting
    anti_message-new = new-waiting pool.stock (letter_rank letter).stamp (subst (λ (s : Sign). holds_stamp s (letter_rank letter).stamp pool.stock ≡ false) is may.new)

    pub anti_message-came : with_waiting (insert_letter letter pool.stock.waiting) pool ≡ with_letter letter pool
    anti_message-came = λ j. record pool { stock = received_in (sym is j) letter pool.stock }
