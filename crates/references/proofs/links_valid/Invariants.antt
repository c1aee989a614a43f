-- references::links_valid meets its contract: the words that the tokens' rows give. Assumes nothing.
use Rattle.references.specs.Tests.{first_word, other_word}
use Rattle.references.proofs.links_valid.Given as goal

abbrev pub ghost-numbers : goal.ghost-numbers
ghost-numbers a = first_word

abbrev pub ghost-numbers-2 : goal.ghost-numbers-2
ghost-numbers-2 a = other_word
