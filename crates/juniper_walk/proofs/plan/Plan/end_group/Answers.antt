use Rattle.std.proofs.Common.{refl, ap, ◌∙◌, map, ◌++◌, ◌∷◌, []}
use Rattle.std.proofs.lemmas.List.{map-append}
use Rattle.juniper_walk.specs.Plans.{all_made}
use Rattle.juniper_walk.proofs.plan.Plan.end_group.Goals as goal

pub returns : goal.returns
returns g c = record {
  added = record { key = c.args.key; first = c.args.first; end = record { 0 = c.len.result } };
  key = refl;
  first = refl;
  end = c.len.ensures ∙ c.args.self.now.occurrences.ok.0;
  groups = c.in_ok-push.ensures.items;
  occurrences = refl;
  left = refl;
  questions = c.in_ok-push-2.ensures.items;
  below = ap (map (λ v. v.items)) c.in_ok-push-3.ensures.items ∙ (map-append (λ v. v.items) c.args.self.now.below.items (c.new.result ∷ [])
      ∙ ap (λ l. all_made c.args.self.now ++ l ∷ []) c.new.ensures.items);
}
