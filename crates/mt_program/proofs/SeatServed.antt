-- One more statement of a script that a session runs.
use Rattle.std.proofs.Common.{◌≡◌, ℕ, ◌+◌, false, List, [], ◌∷◌, ◌++◌, drop, Option, None, Some, refl, sym, ap, ◌∙◌, subst, append_assoc}
use Rattle.std.specs.List.{concat}
use Rattle.std.specs.Io.KnownBytes.{Appends}
use Rattle.mt_values.specs.Script.{statements_of}
use Rattle.mt_outside.specs.Files.{Files}
use Rattle.session.specs.mt_model.History.{History}
use Rattle.session.specs.replies.declared.tally.Tally.{Tally}
use Rattle.session.specs.replies.Tallies.{tallied}
use Rattle.session.specs.run_streams.Streams.{AppendsFront}
use Rattle.session.specs.shared_store.Sharing.{AtOpening}
use Rattle.session.specs.shared_store.Stood.{Premise}
use Rattle.session.specs.Answers.{Having}
use Rattle.session.specs.Runs.{RanEach, RanOut}
use Rattle.session.proofs.RunStreamsKnown.{appends_more, appends_none}
use Rattle.mt_program.specs.Courses.{Item, TalliesReplies, course_of}
use Rattle.mt_program.specs.declared.serving.Ending.TheVariants as ending
use Rattle.mt_program.specs.SeatServing.{SeatServes}
use Rattle.mt_program.specs.Serving.{Output, Progress}
use Rattle.mt_program.proofs.ServedScripts.{concat_push, further, tells_more}

-- the statements of the script up to a place ran, and their replies were written
pub record SeatServed {F : Type 0} (files_of : F → Option Files) (given : Premise → Type 0) (before : History) (o : AtOpening) (whole : ℕ) (p : Progress) (old new : Having) (output : Output) : Type 0 where
  pub done : List Item
  pub replies : List (List ℕ)
  pub split : statements_of p.script ≡ done ++ statements_of (drop p.at p.script)
  pub ran : RanEach files_of given before o whole done replies old new
  pub wrote : Appends output.before output.after (concat replies)
  pub tells : TalliesReplies p.tally replies

module _ {F : Type 0} (files_of : F → Option Files) (given : Premise → Type 0) (before : History) (o : AtOpening) (whole : ℕ) where
  -- nothing was answered yet
  pub seat_served_none : (script : List ℕ) (tally : Tally) (here : Having) (written : Option (List ℕ)) → tally.refused ≡ false → tally.damaged ≡ false
      → SeatServed files_of given before o whole (record { script = script; at = 0; tally = tally }) here here (record { before = written; after = written })
  seat_served_none script tally here written refused damaged = record {
    done = [];
    replies = [];
    split = refl;
    ran = refl;
    wrote = appends_none written;
    tells = record { refusals = refused; damages = damaged };
  }

  module _ (p : Progress) (old mid : Having) (output : Output) (s : SeatServed files_of given before o whole p old mid output) where
    -- nothing is left
    pub seat_served_all : statements_of (drop p.at p.script) ≡ [] → SeatServes files_of given before o whole (ending.Done p.tally) p.script old mid output
    seat_served_all none = record {
      course = course_of s.done s.replies None;
      rest = statements_of (drop p.at p.script);
      out = concat s.replies;
      split = s.split;
      ran = s.ran;
      wrote = s.wrote;
      stops = (refl, none, s.tells, refl);
    }

    -- no reply was begun after the last
    pub seat_served_so_far : SeatServes files_of given before o whole ending.NoMemory p.script old mid output
    seat_served_so_far = record {
      course = course_of s.done s.replies None;
      rest = statements_of (drop p.at p.script);
      out = concat s.replies;
      split = s.split;
      ran = s.ran;
      wrote = s.wrote;
      stops = refl;
    }

    module _ (used : ℕ) (st : Item) (left : statements_of (drop p.at p.script) ≡ st ∷ statements_of (drop (p.at + used) p.script)) (new : Having) where
      split_more : statements_of p.script ≡ (s.done ++ st ∷ []) ++ statements_of (drop (p.at + used) p.script)
      split_more = s.split ∙ (ap (λ ss. s.done ++ ss) left ∙ sym (append_assoc s.done (st ∷ []) (statements_of (drop (p.at + used) p.script))))

      -- the next statement had no reply
      pub seat_served_unanswered : RanOut files_of given before o whole s.done st s.replies old new → SeatServes files_of given before o whole ending.NoMemory p.script old new output
      seat_served_unanswered ends = record {
        course = course_of s.done s.replies (Some st);
        rest = statements_of (drop (p.at + used) p.script);
        out = concat s.replies;
        split = split_more;
        ran = ends;
        wrote = s.wrote;
        stops = refl;
      }

      module _ (reply : List ℕ) (more : RanEach files_of given before o whole (s.done ++ st ∷ []) (s.replies ++ reply ∷ []) old new) where
        -- its reply was written whole
        pub seat_served_more : (told : Tally) → told ≡ tallied p.tally reply → (written : Option (List ℕ)) → Appends output.after written reply → SeatServed files_of given before o whole (further p used told) old new (record { before = output.before; after = written })
        seat_served_more told told_is written wrote = record {
          done = s.done ++ st ∷ [];
          replies = s.replies ++ reply ∷ [];
          split = split_more;
          ran = more;
          wrote = subst (Appends output.before written) (sym (concat_push s.replies reply)) (appends_more output.before output.after written (concat s.replies) reply s.wrote wrote);
          tells = subst (λ (t : Tally). TalliesReplies t (s.replies ++ reply ∷ [])) {x = tallied p.tally reply} (sym told_is) (tells_more p.tally s.replies reply s.tells);
        }

        -- a front of its reply was written
        pub seat_served_cut : (written : Option (List ℕ)) → AppendsFront output.after written reply → SeatServes files_of given before o whole ending.WriteFault p.script old new (record { before = output.before; after = written })
        seat_served_cut written w = record {
          course = course_of (s.done ++ st ∷ []) (s.replies ++ reply ∷ []) None;
          rest = statements_of (drop (p.at + used) p.script);
          out = concat s.replies ++ w.0;
          split = split_more;
          ran = more;
          wrote = appends_more output.before output.after written (concat s.replies) w.0 s.wrote w.3;
          stops = (refl, record { whole = s.replies; last = reply; part = w.0; replies_are = refl; front = (w.1, sym w.2); out_is = refl });
        }
