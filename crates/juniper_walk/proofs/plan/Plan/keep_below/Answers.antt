use Rattle.std.proofs.Common.{refl, sym, ap, ◌∙◌, set, ◌++◌, ◌∷◌, []}
use Rattle.std.proofs.lemmas.List.{map-set}
use Rattle.juniper_walk.specs.Plans.{all_made}
use Rattle.juniper_walk.proofs.Kept.{made-is}
use Rattle.juniper_walk.proofs.plan.Plan.keep_below.Goals as goal

pub returns : goal.returns
returns g c = record {
  groups = refl;
  occurrences = refl;
  questions = refl;
  left = refl;
  kept = record { concrete = c.in_ok-concrete.concrete; groups = c.args.groups };
  made_for = c.in_ok-concrete.ensures.ok;
  made = refl;
  below = map-set (λ v. v.items) c.args.self.now.below.items c.args.group.0 c.push.new.self
      ∙ ap (set (all_made c.args.self.now) c.args.group.0) (c.in_ok-push.ensures.items
      ∙ ap (λ l. l ++ record { concrete = c.in_ok-concrete.concrete; groups = c.args.groups } ∷ [])
      (sym (made-is c.args.self.now c.args.group.0 c.index_mut-made.result.now c.requires c.index_mut-made.ensures.value)));
}
