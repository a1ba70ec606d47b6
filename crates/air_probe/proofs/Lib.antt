mod CardLemmas
