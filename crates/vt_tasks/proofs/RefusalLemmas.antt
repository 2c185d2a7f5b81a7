-- The line of a refusal, by the parts that are put one behind the other.
use Rattle.std.proofs.Common.{◌≡◌, ◌∙◌, ◌++◌, [], List, ℕ, Option, sym, subst, append_assoc}
use Rattle.std.specs.Io.KnownBytes.{Appends}
use Rattle.vt_text.specs.promise.Writing.{AppendsBeginning}
use Rattle.vt_text.specs.inside.Writing.{AppendsAllButHeld}
use Rattle.vt_text.proofs.TextLemmas.{put_on, put_fails, of_longer, flush_fails, written}

module _ (name head carried end whole : List ℕ) (all : ((name ++ head) ++ carried) ++ end ≡ whole) where
  three : (name ++ head) ++ (carried ++ end) ≡ whole
  three = sym (append_assoc (name ++ head) carried end) ∙ all

  two : name ++ (head ++ (carried ++ end)) ≡ whole
  two = sym (append_assoc name head (carried ++ end)) ∙ three

  module _ (old first : Option (List ℕ)) (none : List ℕ) (empty : none ≡ []) where
    -- the name was put in part
    pub name_stops : AppendsBeginning old first (none ++ name) → AppendsBeginning old first whole
    name_stops h = subst (λ (l : List ℕ). AppendsBeginning old first l) two (of_longer old first name (head ++ (carried ++ end)) (subst (λ (x : List ℕ). AppendsBeginning old first (x ++ name)) empty h))

    module _ (held : List ℕ) (put : AppendsAllButHeld old first held (none ++ name)) where
      named : AppendsAllButHeld old first held name
      named = subst (λ (x : List ℕ). AppendsAllButHeld old first held (x ++ name)) empty put

      -- the name was put, and what is said in part
      pub head_stops : (new : Option (List ℕ)) → AppendsBeginning first new (held ++ head) → AppendsBeginning old new whole
      head_stops new h = subst (λ (l : List ℕ). AppendsBeginning old new l) three (of_longer old new (name ++ head) (carried ++ end) (put_fails old first new held name head named h))

      module _ (second : Option (List ℕ)) (held' : List ℕ) (put' : AppendsAllButHeld first second held' (held ++ head)) where
        said : AppendsAllButHeld old second held' (name ++ head)
        said = put_on old first second held held' name head named put'

        -- and what the fault carries in part
        pub carried_stops : (new : Option (List ℕ)) → AppendsBeginning second new (held' ++ carried) → AppendsBeginning old new whole
        carried_stops new h = subst (λ (l : List ℕ). AppendsBeginning old new l) all (of_longer old new ((name ++ head) ++ carried) end (put_fails old second new held' (name ++ head) carried said h))

        module _ (third : Option (List ℕ)) (held'' : List ℕ) (put'' : AppendsAllButHeld second third held'' (held' ++ carried)) where
          told : AppendsAllButHeld old third held'' ((name ++ head) ++ carried)
          told = put_on old second third held' held'' (name ++ head) carried said put''

          -- and the end in part
          pub end_stops : (new : Option (List ℕ)) → AppendsBeginning third new (held'' ++ end) → AppendsBeginning old new whole
          end_stops new h = subst (λ (l : List ℕ). AppendsBeginning old new l) all (put_fails old third new held'' ((name ++ head) ++ carried) end told h)

          module _ (fourth : Option (List ℕ)) (held''' : List ℕ) (put''' : AppendsAllButHeld third fourth held''' (held'' ++ end)) where
            ended : AppendsAllButHeld old fourth held''' whole
            ended = subst (λ (l : List ℕ). AppendsAllButHeld old fourth held''' l) all (put_on old third fourth held'' held''' ((name ++ head) ++ carried) end told put''')

            -- and all of it was written
            pub line_written : (new : Option (List ℕ)) → Appends fourth new held''' → Appends old new whole
            line_written new h = written old fourth new held''' whole ended h

            -- or a beginning of it
            pub line_stops : (new : Option (List ℕ)) → AppendsBeginning fourth new held''' → AppendsBeginning old new whole
            line_stops new h = flush_fails old fourth new held''' whole ended h
