use Rattle.std.proofs.Common.{◌≡◌, ℕ, ◌+◌, ◌<◌, ◌∙◌, ◌++◌, inl, inr, Bool, true, false, List, [], ◌∷◌, filter, take, cond, length, nat_lt, slice_index_or, sym, ap, append-nil}
use Rattle.std.specs.declared.cmp.Ordering.TheVariants.{Less, Equal, Greater}
use Rattle.std.specs.Ordering.{is_lt, nat_cmp}
use Rattle.std.specs.Cmp.{nat_cmp_is}
use Rattle.std.proofs.lemmas.Bool.{cases_Bool, cases_order, ltb-true, lt-ltb}
use Rattle.std.proofs.lemmas.List.Elements.{filter_more}
use Rattle.vt_key.specs.promise.Times.{time_before}
use Rattle.vt_model.specs.declared.rows.Record.{Record}
use Rattle.vt_model.specs.promise.Rows.{record_time}
use Rattle.vt_seq.proofs.PlainLemmas.{true_false}
use Rattle.vt_seq.proofs.run.copy_below.Goals.{then-lt+in-Ok, else-lt}
use Rattle.vt_seq.proofs.run.copy_below.Goals as goal

-- a comparison tells whether a number is less
less : (a b : ℕ) → is_lt (nat_cmp a b) ≡ nat_lt a b
less a b = elim (cases_Bool (nat_lt a b)) [
  | inl y ↦ sym (ap is_lt (nat_cmp_is a b Less (ltb-true a b y))) ∙ sym y
  | inr y ↦ elim (cases_order a b) [
    | inl e ↦ sym (ap is_lt (nat_cmp_is a b Equal e)) ∙ sym y
    | inr apart ↦ elim apart [
      | inl l ↦ true_false (sym (lt-ltb a b l) ∙ y)
      | inr m ↦ sym (ap is_lt (nat_cmp_is a b Greater m)) ∙ sym y
    ]
  ]
]

-- one more record is copied if it is before the time
copied : (rs : List Record) (i t s : ℕ) (d : Record) (b : Bool) (old new : List Record) → i < length rs → old ≡ filter (λ r. time_before (record_time r) t) (take i rs)
    → s ≡ record_time (slice_index_or rs i d) → b ≡ is_lt (nat_cmp s t) → new ≡ old ++ cond b (slice_index_or rs i d ∷ []) [] → new ≡ filter (λ r. time_before (record_time r) t) (take (i + 1) rs)
copied rs i t s d b old new inside before time tested is =
    let x : Record = slice_index_or rs i d in
    let test : b ≡ time_before (record_time x) t = tested ∙ ap (λ (n : ℕ). is_lt (nat_cmp n t)) time ∙ less (record_time x) t in
    is ∙ (λ j. before j ++ cond (test j) (x ∷ []) []) ∙ sym (filter_more (λ r. time_before (record_time r) t) rs i d inside)

copied-one : (rs : List Record) (i t s : ℕ) (d : Record) (b : Bool) (old new : List Record) → i < length rs → old ≡ filter (λ r. time_before (record_time r) t) (take i rs)
    → s ≡ record_time (slice_index_or rs i d) → b ≡ is_lt (nat_cmp s t) → b ≡ true → new ≡ old ++ slice_index_or rs i d ∷ [] → new ≡ filter (λ r. time_before (record_time r) t) (take (i + 1) rs)
copied-one rs i t s d b old new inside before time tested passes is =
    copied rs i t s d b old new inside before time tested (is ∙ ap (λ (z : Bool). old ++ cond z (slice_index_or rs i d ∷ []) []) (sym passes))

copied-none : (rs : List Record) (i t s : ℕ) (d : Record) (b : Bool) (old new : List Record) → i < length rs → old ≡ filter (λ r. time_before (record_time r) t) (take i rs)
    → s ≡ record_time (slice_index_or rs i d) → b ≡ is_lt (nat_cmp s t) → b ≡ false → new ≡ old → new ≡ filter (λ r. time_before (record_time r) t) (take (i + 1) rs)
copied-none rs i t s d b old new inside before time tested fails is =
    copied rs i t s d b old new inside before time tested (is ∙ sym (append-nil old) ∙ ap (λ (z : Bool). old ++ cond z (slice_index_or rs i d ∷ []) []) (sym fails))

pub loop-record-preserved : goal.loop-record-preserved
loop-record-preserved c =
    let rs : List Record = c.args.records.now in
    let old : List Record = c.loop-record.found.items in
    elim c.if-lt.branch [
      | then-lt+in-Ok w ↦ copied-one rs c.loop-record.record-index c.args.t c.when.result _ c.lt.result old c.if-lt.found.items c.loop-record-test.true c.loop-record.invariant c.when.ensures c.lt.ensures w.if-lt.true (ap (λ v. v.items) w.found-is ∙ w.in-Ok.ensures.items)
      | else-lt w ↦ copied-none rs c.loop-record.record-index c.args.t c.when.result _ c.lt.result old c.if-lt.found.items c.loop-record-test.true c.loop-record.invariant c.when.ensures c.lt.ensures w.if-lt.false (ap (λ v. v.items) w.found-is)
    ]
