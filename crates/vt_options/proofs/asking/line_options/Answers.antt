use Rattle.std.proofs.Common.{◌≡◌, ◌∙◌, List, [], ◌++◌, ap, append_assoc, rules}
use Rattle.vt_options.specs.promise.Line.{UsedOption}
use Rattle.vt_options.specs.inside.Line.{options_of}
use Rattle.vt_options.proofs.asking.line_options.Goals as goal

-- lists that are added one behind the other
all_added : (l0 l1 l2 l3 l4 l5 l6 a b c d e f : List UsedOption) → l1 ≡ l0 ++ a → l2 ≡ l1 ++ b → l3 ≡ l2 ++ c → l4 ≡ l3 ++ d → l5 ≡ l4 ++ e → l6 ≡ l5 ++ f → l0 ≡ [] → l6 ≡ a ++ (b ++ (c ++ (d ++ (e ++ f))))
all_added l0 l1 l2 l3 l4 l5 l6 a b c d e f h1 h2 h3 h4 h5 h6 h0 =
    let k1 : l1 ≡ a = h1 ∙ ap (λ l. l ++ a) h0 in
    let k2 : l2 ≡ a ++ b = h2 ∙ ap (λ l. l ++ b) k1 in
    let k3 : l3 ≡ (a ++ b) ++ c = h3 ∙ ap (λ l. l ++ c) k2 in
    let k4 : l4 ≡ ((a ++ b) ++ c) ++ d = h4 ∙ ap (λ l. l ++ d) k3 in
    let k5 : l5 ≡ (((a ++ b) ++ c) ++ d) ++ e = h5 ∙ ap (λ l. l ++ e) k4 in
    h6 ∙ ap (λ l. l ++ f) k5
    ∙ append_assoc (((a ++ b) ++ c) ++ d) e f
    ∙ append_assoc ((a ++ b) ++ c) d (e ++ f)
    ∙ append_assoc (a ++ b) c (d ++ (e ++ f))
    ∙ append_assoc a b (c ++ (d ++ (e ++ f)))

pub returns : goal.returns
returns c =
    let none : options_of c.new-list.result.items ≡ [] = search rules in
    all_added (options_of c.new-list.result.items) _ _ _ _ _ _ _ _ _ _ _ _ c.in_ok-add_naming.ensures c.in_ok-add_all.ensures c.in_ok-add_models.ensures c.in_ok-add_files.ensures c.in_ok-add_all-2.ensures c.in_ok-add_programs.ensures none
