-- The names of spreads and of type conditions, without their places.
use Rattle.std.proofs.Common.{◌≡◌, List, ◌∷◌, ◌++◌, Option, Some, None, refl, ap, ap₂, ◌∙◌}
use Rattle.graphql_spec.specs.Shown.{Name}
use Rattle.graphql_spec.specs.Documents.{Word, Selections, end, field, spread, inline, Definition, operation, fragment}
use Rattle.graphql_spec.specs.Fragments.{spreads}
use Rattle.graphql_spec.specs.Written.{conditions, all_conditions}
use Rattle.juniper_type_rules.specs.Variables.{names_of_words}
use Rattle.juniper_type_rules.proofs.WordsIn.{names-append}
use Rattle.juniper_explain.specs.Words.{condition_words, inline_words, spread_words, word_list}

pub spreads-are : (x : Selections) → names_of_words (spread_words x) ≡ spreads x
unfolding spread_words spreads
spreads-are end = refl
spreads-are (field h below rest) =
    names-append (spread_words below) (spread_words rest) ∙ ap₂ (λ a b. a ++ b) (spreads-are below) (spreads-are rest)
spreads-are (spread x rest) = ap (λ l. x.name.item ∷ l) (spreads-are rest)
spreads-are (inline x below rest) =
    names-append (spread_words below) (spread_words rest) ∙ ap₂ (λ a b. a ++ b) (spreads-are below) (spreads-are rest)

one-condition : (o : Option Word) (a b : List Name) → (names_of_words (word_list o) ++ a) ++ b ≡ elim o [ None ↦ a ++ b | Some w ↦ w.item ∷ (a ++ b) ]
unfolding word_list
one-condition None a b = refl
one-condition (Some w) a b = refl

pub inlines-are : (x : Selections) → names_of_words (inline_words x) ≡ conditions x
unfolding inline_words conditions
inlines-are end = refl
inlines-are (field h below rest) =
    names-append (inline_words below) (inline_words rest) ∙ ap₂ (λ a b. a ++ b) (inlines-are below) (inlines-are rest)
inlines-are (spread x rest) = inlines-are rest
inlines-are (inline x below rest) =
    names-append (word_list x.condition ++ inline_words below) (inline_words rest)
    ∙ (ap₂ (λ a b. a ++ b) (names-append (word_list x.condition) (inline_words below)
    ∙ ap (λ l. names_of_words (word_list x.condition) ++ l) (inlines-are below))
    (inlines-are rest)
    ∙ one-condition x.condition (conditions below) (conditions rest))

pub conditions-are : (x : Definition) → names_of_words (condition_words x) ≡ all_conditions x
unfolding condition_words all_conditions
conditions-are (operation o) = inlines-are o.selections
conditions-are (fragment f) = ap (λ l. f.condition.item ∷ l) (inlines-are f.selections)
