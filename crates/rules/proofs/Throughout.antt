-- What holds throughout a list of calls from any valid state. Assumes nothing.
use native.Mathlib.Nat.{le_refl}
use native.Mathlib.Omega.{arith}
use mathlib.Core.Path.{◌≡◌, refl, sym, ◌∙◌, subst}
use mathlib.Core.Bool.{true}
use mathlib.Core.List.{List, [], ◌∷◌, ◌++◌}
use lib.ListN.{length}
use Rattle.rules.specs.Basic.{all}
use Rattle.rules.specs.Run.{returned, after, of_bytes, events, outcomes, OneByOne, Call}
use Rattle.rules.specs.State.{State}
use Rattle.rules.specs.Valid.{valid}
use Rattle.rules.specs.Throughout.{Throughout}
use Rattle.rules.proofs.Runs.{run_end, run_answers, run_timed, cutting, used_up_lem, cut}
use Rattle.rules.proofs.Facts.{valid_facts, facts_valid}
use Rattle.rules.proofs.Always.{run_serves, run_step, lasts, handle_kept_lem, handle_numbers_lem, token_numbers_lem, enabled_present, default_present, sids_listed, all_fit}
use Rattle.rules.proofs.SidGrowth.{number_stays, one_number_lem}
use Rattle.rules.proofs.SidNumbers.{sids_two}
use Rattle.rules.proofs.Bound.{bound, closed}
use Rattle.rules.proofs.Ladder.{ladder}
use Rattle.rules.proofs.Acting.{acting, client_kept}
use Rattle.rules.proofs.Linking.{pairs_kept, elevation_kept}
use Rattle.rules.proofs.EnteringSids.{sids_entered}
use Rattle.rules.proofs.Evaluating.{evaluated}
use Rattle.rules.proofs.Sources.{no_more}
use Rattle.rules.proofs.Served.{answers_served, one_by_one_lem}
use Rattle.rules.proofs.Roots.{creations, roots}
use Rattle.rules.proofs.Restoring.{privileges_kept, puts_back_lem, can_put_back_lem}

after_append : (cs ds : List Call) (σ : State) → after (cs ++ ds) σ ≡ after ds (after cs σ)
unfolding after
after_append [] ds σ = refl
after_append (c ∷ cs) ds σ = after_append cs ds (returned σ c).after

-- every list of calls, of bytes, from every valid state
pub throughout : (σ : State) → valid σ ≡ true → (cs : List Call) → all of_bytes cs ≡ true → Throughout σ cs
throughout σ v cs w =
    let f = valid_facts σ v in
    let τ = after cs σ in
    let g = (run_step cs σ w f).facts in
    let ordered : OneByOne σ (outcomes (events cs σ) σ) τ = subst (OneByOne σ (outcomes (events cs σ) σ)) (sym (run_end cs σ)) (one_by_one_lem (events cs σ) σ) in
    record {
      end = run_end cs σ;
      answers = run_answers cs σ;
      at_their_bytes = run_timed 0 cs σ;
      served = run_timed 0 cs σ ∙ answers_served 0 (events cs σ) σ;
      one_by_one = ordered;
      ladder = λ x m. ladder x.before x.station x.body;
      alike = λ ds e. cutting ds cs σ e;
      used_up = λ s a buffer_length h k. used_up_lem (length a) τ s a buffer_length h k (le_refl _);
      cutting = λ s a b buffer_length h k. cut τ s a b buffer_length (length (a ++ b)) (length a) (length b) h k (omega arith) (omega arith) (omega arith);
      order = facts_valid τ g;
      lasting = λ more x. rw (after_append cs more σ) (lasts τ g more x);
      numbers = λ more x. rw (after_append cs more σ) (run_step more τ x g).later;
      bound = λ more x. rw (after_append cs more σ) (bound τ g more x);
      closed = λ more x. rw (after_append cs more σ) (closed τ g more x);
      handle_kept = λ more x. rw (after_append cs more σ) (handle_kept_lem τ g more x);
      handles = λ more x. rw (after_append cs more σ) (run_step more τ x g).handles;
      handle_numbers = handle_numbers_lem τ g;
      token_numbers = token_numbers_lem τ g;
      acting = acting τ g.loose;
      clients = λ x m s. client_kept x s;
      linked = g.loose.pairs;
      pairs = λ x m. pairs_kept x;
      elevations = λ x m. elevation_kept x (run_serves cs σ w f x m);
      evaluating = λ x m. evaluated x;
      sids = λ more x n k. rw (after_append cs more σ) (number_stays (run_step more τ x g).sids (sids_two τ.sids g.loose.sids) n k);
      one_number = λ n m i j e. one_number_lem τ.sids g.loose.sids n m i j e;
      sid_table = λ more x. rw (after_append cs more σ) (run_step more τ x g).sids;
      entering = λ x m. sids_entered x;
      listed = sids_listed τ g;
      enabled = enabled_present τ g;
      by_default = default_present τ g;
      copies = no_more cs σ w f;
      creations = creations cs σ w f;
      roots = roots cs σ w f ordered;
      privileges = λ x m. privileges_kept x (run_serves cs σ w f x m);
      puts_back = puts_back_lem _ σ τ (run_serves cs σ w f) ordered;
      can_put_back = λ x m. can_put_back_lem x (run_serves cs σ w f x m);
      fit = all_fit cs σ w f;
    }
