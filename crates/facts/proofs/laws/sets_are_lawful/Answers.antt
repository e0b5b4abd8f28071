use Rattle.std.proofs.Common.{rules}
use Rattle.facts.proofs.Sets.{has_union, has_without, has_common, subset_has, subset_from_has, sets_equal, none_has, none_from_has, same_sets}
use Rattle.facts.proofs.Insert.{has_insert, insert_past}
use Rattle.facts.proofs.Count.{size_tally}
use Rattle.facts.proofs.Bytes.{words_back, bytes_back, each_small}
use Rattle.facts.proofs.laws.sets_are_lawful.Goals as goal

pub returns : goal.returns
returns c =
    record {
      union = has_union;
      difference = has_without;
      common = has_common;
      insert = has_insert;
      insert_past = insert_past;
      subset_gives = subset_has;
      subset_from = subset_from_has;
      none_gives = none_has;
      none_from = none_from_has;
      extensional = same_sets;
      size_counts = size_tally;
      equal = λ s t. sets_equal s t _ (search rules);
      words_back = words_back;
      bytes_back = λ n bs at small l. bytes_back n bs at (each_small bs small) l;
    }
